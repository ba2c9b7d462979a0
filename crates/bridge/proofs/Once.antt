-- Each exported call has one answer and one memory, for every code or mode number, word, frame, scheme, grid, stream and lent list.
-- Assumes nothing.
use mathlib.Core.Path.{◌≡◌, sym, ap, ◌∙◌}
use mathlib.Core.Logic.{inl, inr}
use mathlib.Core.List.{List}
use Prim.Native.Nat.{ℕ}
use lib.IntN.{ℤ}
use Rattle.bch.proofs.Once.{encode_once, decode_once}
use Rattle.payload_a.proofs.OnceA.{send_a_once, receive_a_once}
use Rattle.payload_b.proofs.OnceB.{send_b_once, receive_b_once}
use Rattle.payload_b.proofs.OnceStream.{open_once, step_once}
use Rattle.decisions.proofs.OnceDecided.{decide_a_once, decide_b_once}
use Rattle.answers.specs.Answers.{of_written, of_decoded, of_received_a, of_received_b, ReceivedB, Written}
use Rattle.answers.specs.declared.DecodedWord.{DecodedWord}
use Rattle.answers.specs.declared.ReceivedBurst.{ReceivedBurst}
use Rattle.bridge.specs.Calls.{answer_of, received_of}
use Rattle.payload_b.specs.declared.stream.State.{State}
use Rattle.payload_b.specs.Courses.{told_of}
use Rattle.bridge.specs.Streams.{lent_of, state_of}
use Rattle.bridge.specs.Calls.{EncodeCall, DecodeCall, SendACall, ReceiveACall, SendBCall, ReceiveBCall, SymbolsBCall, OpenBCall, StepBCall, DecideACall, DecideBCall}
use Rattle.bridge.specs.declared.Answer.{Answer}
use Rattle.bridge.specs.declared.Received.{Received}
use Rattle.bridge.specs.declared.Needed.{Needed}

module _ {c : ℕ} {word out : List ℕ} {r s : Answer} {u v : List ℕ} where
  pub encode_call_once : EncodeCall c word out r u → EncodeCall c word out s v → (r ≡ s) × (u ≡ v)
  encode_call_once p q =
      let same = encode_once word out p.answer q.answer u v c p.promise q.promise in
      (p.told ∙ ap (λ (a : Written). answer_of (of_written a)) same.0 ∙ sym q.told, same.1)

  pub decode_call_once : {ps qs : List ℕ} → DecodeCall c word out r u ps → DecodeCall c word out s v qs → (r ≡ s) × (u ≡ v) × (ps ≡ qs)
  decode_call_once p q =
      let same = decode_once word out p.answer q.answer u v c p.promise q.promise in (
        p.told ∙ ap (λ (a : DecodedWord). answer_of (of_decoded a.answer)) same.0 ∙ sym q.told,
        same.1,
        p.list ∙ ap (λ (a : DecodedWord). a.places) same.0 ∙ sym q.list,
      )

module _ {mode : ℕ} {frame : List ℕ} {is qs : List ℤ} {r s : Answer} {is1 qs1 is2 qs2 : List ℤ} where
  pub send_a_call_once : SendACall mode frame is qs r is1 qs1 → SendACall mode frame is qs s is2 qs2 → (r ≡ s) × (is1 ≡ is2) × (qs1 ≡ qs2)
  send_a_call_once p q =
      let same = send_a_once mode frame is qs p.answer q.answer is1 qs1 is2 qs2 p.promise q.promise in
      (p.told ∙ ap (λ (a : Written). answer_of (of_written a)) same.0 ∙ sym q.told, same.1, same.2)

module _ {mode : ℕ} {is qs : List ℤ} {area : List ℕ} {r s : Received} {u v first1 second1 first2 second2 : List ℕ} where
  pub receive_a_call_once : ReceiveACall mode is qs area r u first1 second1 → ReceiveACall mode is qs area s v first2 second2
      → (r ≡ s) × (u ≡ v) × (first1 ≡ first2) × (second1 ≡ second2)
  receive_a_call_once p q =
      let same = receive_a_once area p.answer q.answer u v mode is qs p.promise q.promise in (
        p.told ∙ ap (λ (a : ReceivedBurst). received_of (of_received_a a.answer)) same.0 ∙ sym q.told,
        same.1,
        p.first_list ∙ ap (λ (a : ReceivedBurst). a.first) same.0 ∙ sym q.first_list,
        p.second_list ∙ ap (λ (a : ReceivedBurst). a.second) same.0 ∙ sym q.second_list,
      )

module _ {mode : ℕ} {frame scheme : List ℕ} {is qs : List ℤ} {r s : Answer} {is1 qs1 is2 qs2 : List ℤ} where
  pub send_b_call_once : SendBCall mode frame scheme is qs r is1 qs1 → SendBCall mode frame scheme is qs s is2 qs2 → (r ≡ s) × (is1 ≡ is2) × (qs1 ≡ qs2)
  send_b_call_once p q =
      let same = send_b_once mode frame scheme is qs p.answer q.answer is1 qs1 is2 qs2 p.promise q.promise in
      (p.told ∙ ap (λ (a : Written). answer_of (of_written a)) same.0 ∙ sym q.told, same.1, same.2)

module _ {mode size : ℕ} {scheme : List ℕ} {is qs : List ℤ} {area : List ℕ} {r s : Received} {u v : List ℕ} where
  pub receive_b_call_once : ReceiveBCall mode size scheme is qs area r u → ReceiveBCall mode size scheme is qs area s v → (r ≡ s) × (u ≡ v)
  receive_b_call_once p q =
      let same = receive_b_once area p.answer q.answer u v mode size scheme is qs p.promise q.promise in
      (p.told ∙ ap (λ (a : ReceivedB). received_of (of_received_b a)) same.0 ∙ sym q.told, same.1)

pub symbols_b_call_once : (mode size : ℕ) (scheme : List ℕ) {r s : Needed} → SymbolsBCall mode size scheme r → SymbolsBCall mode size scheme s → r ≡ s
symbols_b_call_once mode size scheme p q = p ∙ sym q

module _ {mode size : ℕ} {scheme : List ℕ} {r s : Answer} {u v : List ℕ} where
  pub open_b_call_once : OpenBCall mode size scheme r u → OpenBCall mode size scheme s v → (r ≡ s) × (u ≡ v)
  open_b_call_once p q =
      let same = open_once mode size scheme p.state q.state p.promise q.promise in
      (p.told ∙ ap (λ (t : State). answer_of (told_of t.course)) same ∙ sym q.told, p.left ∙ ap lent_of same ∙ sym q.left)

module _ {stream : List ℕ} {is qs : List ℤ} {area : List ℕ} {r s : Received} {stream1 area1 stream2 area2 : List ℕ} where
  pub step_b_call_once : StepBCall stream is qs area r stream1 area1 → StepBCall stream is qs area s stream2 area2
      → (r ≡ s) × (stream1 ≡ stream2) × (area1 ≡ area2)
  step_b_call_once (inl p) (inl q) =
      let same = step_once (state_of stream) is qs area p.answer q.answer p.state q.state area1 area2 p.promise q.promise in
      (p.told ∙ ap (λ (a : ReceivedB). received_of (of_received_b a)) same.0 ∙ sym q.told, p.left ∙ ap lent_of same.1 ∙ sym q.left, same.2)
  step_b_call_once (inl p) (inr q) = absurd (q.holds_none p.holds)
  step_b_call_once (inr p) (inl q) = absurd (p.holds_none q.holds)
  step_b_call_once (inr p) (inr q) = (p.told ∙ sym q.told, p.stream_left ∙ sym q.stream_left, p.area_left ∙ sym q.area_left)

module _ {mode : ℕ} {is qs out_i out_q : List ℤ} {r s : Answer} {is1 qs1 is2 qs2 : List ℤ} where
  pub decide_a_call_once : DecideACall mode is qs out_i out_q r is1 qs1 → DecideACall mode is qs out_i out_q s is2 qs2 → (r ≡ s) × (is1 ≡ is2) × (qs1 ≡ qs2)
  decide_a_call_once p q =
      let same = decide_a_once is qs out_i out_q p.answer q.answer is1 qs1 is2 qs2 mode p.promise q.promise in
      (p.told ∙ ap (λ (a : Written). answer_of (of_written a)) same.0 ∙ sym q.told, same.1, same.2)

  pub decide_b_call_once : {size : ℕ} {scheme : List ℕ} → DecideBCall mode size scheme is qs out_i out_q r is1 qs1
      → DecideBCall mode size scheme is qs out_i out_q s is2 qs2 → (r ≡ s) × (is1 ≡ is2) × (qs1 ≡ qs2)
  decide_b_call_once {size} {scheme} p q =
      let same = decide_b_once is qs out_i out_q p.answer q.answer is1 qs1 is2 qs2 mode size scheme p.promise q.promise in
      (p.told ∙ ap (λ (a : Written). answer_of (of_written a)) same.0 ∙ sym q.told, same.1, same.2)
