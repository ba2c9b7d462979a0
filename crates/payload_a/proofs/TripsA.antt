-- Payload A there and back: a frame goes up exactly when it fits and the burst is no noise; where points are accepted, sending the frame again gives the bits
-- received but for those counted, in all and in the worst block; and clean points give the frame that was sent (demands 2 and 3; document 02, items 3, 8, 10).
-- Assumes nothing.
use mathlib.Core.Path.{◌≡◌, refl, sym, ap, ◌∙◌}
use mathlib.Core.Logic.{inl, inr}
use mathlib.Core.Bool.{true, ◌&&◌}
use mathlib.Core.List.{List, [], ◌++◌}
use Prim.Native.Nat.{ℕ, ◌+◌, ◌*◌, ◌≤◌, ◌<◌}
use native.Mathlib.Omega.{arith}
use borrow.Author.Tests.{leb-true, eqb-true, ltb-false}
use lib.Dec.{eqb, leb, ltb}
use lib.IntN.{ℤ}
use lib.ListN.{length, take, drop, length-drop}
use lib.Seq.{take_at, length-take-le}
use Rattle.answers.specs.Answers.{accepted, of_written, of_received_a, listed, ToldBurst, of_burst, refused_burst, ReceivedA, Written, counted_a}
use Rattle.answers.specs.Checks.{Checked, fails, passes}
use Rattle.answers.specs.declared.Told.{Told}
use Rattle.answers.specs.declared.ReceivedBurst.{ReceivedBurst}
use Rattle.answers.proofs.Telling.{because_is, burst_told, by_test, not_refused}
use Rattle.bits.specs.Words.{Bits, differ}
use Rattle.bits.specs.Places.{places}
use Rattle.bits.specs.Bytes.{Bytes}
use Rattle.bits.proofs.Digits.{bits_take, bits_drop}
use Rattle.bits.proofs.Distances.{differ_self, differ-zero}
use Rattle.bits.proofs.Placing.{places_self}
use Rattle.points.specs.declared.Point.{Point}
use Rattle.points.specs.Dqpsk.{dibits, stray_at}
use Rattle.points.proofs.Turns.{dibits_bits_from}
use Rattle.symbols.specs.Grids.{received, first_occupied, room}
use Rattle.symbols.proofs.Leading.{front_room, front_points, front_empty}
use Rattle.bch.proofs.Listings.{Names, names}
use Rattle.payload.specs.Wire.{block_at, count_at, worst_of, total, worst, Fits}
use Rattle.payload.proofs.Wires.{fits_clean}
use Rattle.payload.proofs.LineQuality.{count_sum, whole_sum, Quality, quality, quality_told, none_mended, worst_self}
use Rattle.payload_a.specs.Segments.{row_bits, framed, carried, protected, fields, protected_differing, most_differing}
use Rattle.payload_a.specs.CodedA.{bytes_a, coded_a, points_a, sent_i, sent_q}
use Rattle.payload_a.specs.PromiseA.{elements_a, point_count_a, send_checked, Sends, SendingA}
use Rattle.payload_a.specs.PromiseA.{noise_checked, receive_checked, wire_a, places_in, Goes, Answered, Receives, ReceivingA}
use Rattle.payload_a.proofs.Coding.{bits_coded_a, length-coded_a}
use Rattle.payload_a.proofs.Framing.{bits_framed, length-framed, length-carried, bits_carried, carried-framed, protected-framed}
use Rattle.payload_a.proofs.Turnings.{none_stray, bits_back, length_read}
use Rattle.payload_a.proofs.VerdictsA.{receivable, legal, noise, no_noise}
use Rattle.payload_a.proofs.OnceA.{receive_a_once}
use Rattle.std.specs.Prelude.{Ok, Err}

-- ---- every check

-- no more protected bits differ than may
abbrev pub NoNoise : List ℕ → Type 0
NoNoise bits = protected_differing bits ≤ most_differing

-- what holds of each check that fails, and where all pass: of send's, and of receive's
module _ (P : Checked Unit → Type 0) (failed : (number place : ℕ) → 0 < number → P (fails number place)) where
  by_send : (mode : ℕ) (frame : List ℕ) (is qs : List ℤ) → (mode ≤ 1 → length frame ≡ bytes_a mode → P (passes tt)) → P (send_checked mode frame is qs)
  by_send mode frame is qs on =
      by_test P (leb mode 1)
      (λ k. by_test P (eqb (length frame) (bytes_a mode))
      (λ e. by_test P (room elements_a is qs) (λ _. on (leb-true mode 1 k) (eqb-true (length frame) (bytes_a mode) e)) (λ _. failed 3 0 (omega arith)))
      (λ _. failed 2 0 (omega arith)))
      (λ _. failed 1 0 (omega arith))

  by_receive : (mode : ℕ) (is qs : List ℤ) (area : List ℕ) → (mode ≤ 1 → NoNoise (dibits (received 2 is qs)) → P (passes tt))
      → P (receive_checked mode is qs area)
  by_receive mode is qs area on =
      by_test P (leb mode 1)
      (λ k. by_test P (room elements_a is qs && leb (bytes_a mode) (length area))
      (λ _. by_test P (ltb (first_occupied is qs 0 elements_a) elements_a) (λ _. failed 7 _ (omega arith))
      (λ _. by_test P (ltb (stray_at (received 2 is qs)) point_count_a) (λ _. failed 8 _ (omega arith))
      (λ _. by_test P (ltb most_differing (protected_differing (dibits (received 2 is qs)))) (λ _. failed 11 0 (omega arith))
      (λ e. on (leb-true mode 1 k) (ltb-false most_differing _ e)))))
      (λ _. failed 3 0 (omega arith)))
      (λ _. failed 1 0 (omega arith))

-- ---- what is sent for a frame, read back

-- the bits of the points that are sent
abbrev pub again : ℕ → List ℕ → List ℕ
again mode frame = dibits (received 2 (sent_i mode frame) (sent_q mode frame))

module _ (mode : ℕ) (frame : List ℕ) (known : mode ≤ 1) (long : length frame ≡ bytes_a mode) where
  coded_long : length (coded_a mode frame) ≡ 784
  coded_long = length-coded_a mode frame known long

  read_back : again mode frame ≡ framed (coded_a mode frame)
  unfolding sent_i sent_q points_a
  read_back =
      bits_back (framed (coded_a mode frame)) (length-framed (coded_a mode frame) coded_long)
      (bits_framed (coded_a mode frame) (bits_coded_a mode frame known long))

  carried-again : carried (again mode frame) ≡ coded_a mode frame
  carried-again = ap carried read_back ∙ carried-framed (coded_a mode frame) coded_long

  protected-again : protected (again mode frame) ≡ fields
  protected-again = ap protected read_back ∙ protected-framed (coded_a mode frame) coded_long

-- ---- halves

half_long : (b : ℕ) → b < 2 → (l : List ℕ) → length l ≡ 784 → length (block_at row_bits b l) ≡ 392
half_long b low l e = length-take-le 392 (drop (392 * b) l) (omega (arith, length-drop (392 * b) l))

differ_halves : (v w : List ℕ) → length v ≡ 784 → length w ≡ 784 → count_at row_bits 0 v w + count_at row_bits 1 v w ≡ differ v w
unfolding count_sum
differ_halves v w ev ew = let all = whole_sum row_bits v w 2 ev ew in omega (arith, all)

half_bits : (b : ℕ) (l : List ℕ) → Bits l → Bits (block_at row_bits b l)
half_bits b l bits = bits_take 392 (drop (392 * b) l) (bits_drop (392 * b) l bits)

bits_read : (is qs : List ℤ) → Bits (dibits (received 2 is qs))
unfolding dibits
bits_read is qs = dibits_bits_from (received 2 is qs) 0

-- ---- where points are accepted

module _ (mode : ℕ) (is qs : List ℤ) (area : List ℕ) (answer : ReceivedBurst) (after : List ℕ) (receiving : ReceivingA mode is qs area answer after)
    (mended differing worst : ℕ) (tells : of_received_a answer.answer ≡ accepted mended differing worst) where
  abbrev bits : List ℕ
  bits = dibits (received 2 is qs)

  -- a frame at the front of the area
  in_front : (frame : List ℕ) → length frame ≡ bytes_a mode → after ≡ frame ++ drop (bytes_a mode) area → take (bytes_a mode) after ≡ frame
  in_front frame long left = ap (take (bytes_a mode)) left ∙ take_at frame (drop (bytes_a mode) area) (bytes_a mode) long

  abbrev Up : Type 0
  Up = (mode ≤ 1) × NoNoise bits × Goes mode (carried bits) (protected_differing bits) area answer after

  goes : Up
  goes =
      by_receive (λ k. Receives k mode bits area answer after → Up) (λ number place l p. absurd (not_refused tells (burst_told answer p.0) l))
      mode is qs area of_answer receiving
    where
      of_answer : mode ≤ 1 → NoNoise bits → Answered mode (carried bits) (protected_differing bits) area answer after → Up
      of_answer known few (inl p) = (known, few, p)
      of_answer known few (inr (inl p)) = absurd (not_refused tells (burst_told answer p.tells) (omega arith))
      of_answer known few (inr (inr p)) = absurd (not_refused tells (burst_told answer p.tells) (omega arith))

  up_is : take (bytes_a mode) after ≡ goes.2.frame
  up_is = in_front goes.2.frame goes.2.fits.long goes.2.left

  -- the frame that went up fits
  up_fits : (frame : List ℕ) → length frame ≡ bytes_a mode → after ≡ frame ++ drop (bytes_a mode) area → Fits (wire_a mode) (carried bits) frame
  up_fits frame long left = rw (sym up_is ∙ in_front frame long left) at goes.2.fits

  -- the bits that sending the frame that went up again gives
  abbrev resent : List ℕ
  resent = carried (again mode (take (bytes_a mode) after))

  -- they are the bits received, but for those counted as mended, in all and in the worst block; so are its protected bits, but for those counted, at most 12
  pub sent_again :
      (differ resent (carried bits) ≡ mended) × (worst_of row_bits 2 resent (carried bits) ≡ worst)
      × (differ (protected (again mode (take (bytes_a mode) after))) (protected bits) ≡ differing) × (differing ≤ most_differing)
  sent_again =
      let counts = sym (burst_told answer goes.2.tells) ∙ tells in
      let fields_counted = ap (λ (told : Told). told.protected) counts in
      let f = goes.2.frame in
      let long = goes.2.fits.long in
      rw (up_is, carried-again mode f goes.0 long, protected-again mode f goes.0 long) (
        ap (λ (told : Told). told.mended) counts,
        ap (λ (told : Told). told.worst) counts,
        fields_counted,
        rw fields_counted at goes.1,
      )

  -- in how many places a half differs from the one received
  abbrev hits_in : ℕ → List ℕ → ℕ
  hits_in half sent = count_at row_bits half sent (carried bits)

  -- and in each half the list names the places of the bits mended: flipped there, the bits received are those that sending again gives
  abbrev Located : ℕ → List ℕ → List ℕ → Type 0
  Located half list sent = Names list (block_at row_bits half (carried bits)) (block_at row_bits half sent) (hits_in half sent)

  -- of both halves together as many as are counted
  pub sent_places : Located 0 answer.first resent × Located 1 answer.second resent × (hits_in 0 resent + hits_in 1 resent ≡ mended)
  sent_places =
      let f = goes.2.frame in
      let long = goes.2.fits.long in
      let counts = sym (burst_told answer goes.2.tells) ∙ tells in
      rw (up_is, carried-again mode f goes.0 long) (
        half 0 (omega arith) (ap (λ (t : ToldBurst). t.first) goes.2.tells),
        half 1 (omega arith) (ap (λ (t : ToldBurst). t.second) goes.2.tells),
        differ_halves (coded_a mode f) (carried bits) (length-coded_a mode f goes.0 long) (length-carried bits (length_read is qs))
            ∙ ap (λ (told : Told). told.mended) counts,
      )
    where
      half : (b : ℕ) → b < 2 → {list : List ℕ} → list ≡ listed (places_in b mode goes.2.frame (carried bits))
          → Located b list (coded_a mode goes.2.frame)
      half b l =
          let f = goes.2.frame in
          names (block_at row_bits b (coded_a mode f)) (block_at row_bits b (carried bits))
          (half_bits b (coded_a mode f) (bits_coded_a mode f goes.0 goes.2.fits.long)) (half_bits b (carried bits) (bits_carried bits (bits_read is qs)))
          (half_long b l (coded_a mode f) (length-coded_a mode f goes.0 goes.2.fits.long)
          ∙ sym (half_long b l (carried bits) (length-carried bits (length_read is qs))))

  -- what mended and worst say of the blocks of the frame that went up
  pub quality_a : Quality (wire_a mode) (carried bits) (take (bytes_a mode) after) mended worst
  quality_a =
      let f = goes.2.frame in
      let long = goes.2.fits.long in
      let counts = sym (burst_told answer goes.2.tells) ∙ tells in
      quality_told up_is (ap (λ (told : Told). told.mended) counts) (ap (λ (told : Told). told.worst) counts)
      (quality (wire_a mode) (carried bits) f (omega arith) (length-coded_a mode f goes.0 long) (length-carried bits (length_read is qs)) goes.2.fits)

-- an uncoded answer lists no place and counts nothing mended, accepted or refused
module _ (is qs : List ℤ) (area : List ℕ) (answer : ReceivedBurst) (after : List ℕ) where
  abbrev NoPlace : Type 0
  NoPlace = (answer.first ≡ listed []) × (answer.second ≡ listed [])

  pub uncoded_places : ReceivingA 0 is qs area answer after → NoPlace
  uncoded_places =
      by_receive (λ k. Receives k 0 (dibits (received 2 is qs)) area answer after → NoPlace) (λ number place l p. lists p.0) 0 is qs area
      (λ known few. answered)
    where
      lists : {t : ToldBurst} → of_burst answer ≡ t → (answer.first ≡ t.first) × (answer.second ≡ t.second)
      lists e = (ap (λ (t : ToldBurst). t.first) e, ap (λ (t : ToldBurst). t.second) e)

      none : (frame word : List ℕ) → Fits (wire_a 0) word frame → (half : ℕ) → half < 2 → places_in half 0 frame word ≡ []
      none frame word fits half l =
          let same = differ-zero (block_at row_bits half (coded_a 0 frame)) (block_at row_bits half word) (omega (arith, fits.near half l)) in
          ap (λ (v : List ℕ). places v (block_at row_bits half word)) same ∙ places_self (block_at row_bits half word)

      answered : Answered 0 (carried (dibits (received 2 is qs))) (protected_differing (dibits (received 2 is qs))) area answer after → NoPlace
      answered (inl p) =
          let e = lists p.tells in
          (e.0 ∙ ap listed (none p.frame _ p.fits 0 (omega arith)), e.1 ∙ ap listed (none p.frame _ p.fits 1 (omega arith)))
      answered (inr (inl p)) = lists p.tells
      answered (inr (inr p)) = lists p.tells

  pub uncoded_counts : ReceivingA 0 is qs area answer after → ((of_received_a answer.answer).mended ≡ 0) × ((of_received_a answer.answer).worst ≡ 0)
  uncoded_counts receiving = by answer.answer refl
    where
      by : (r : ReceivedA) → answer.answer ≡ r → ((of_received_a r).mended ≡ 0) × ((of_received_a r).worst ≡ 0)
      by (Ok k) e = none_mended (quality_a 0 is qs area answer after receiving k.mended k.protected k.worst (ap of_received_a e)) refl
      by (Err why) e = let t = because_is why in (ap (λ (told : Told). told.mended) t, ap (λ (told : Told). told.worst) t)

-- ---- a frame goes up exactly when it fits and the burst is no noise

-- the answer for a burst that is accepted
abbrev pub burst_of : ℕ → ℕ → ℕ → List ℕ → List ℕ → ReceivedBurst
burst_of mended protected worst first second = record { answer = counted_a mended protected worst; first = listed first; second = listed second }

-- a call of legal lengths, with legal points and empty unavailable sub-carriers
pub record Legal (mode : ℕ) (is qs : List ℤ) (area : List ℕ) : Type 0 where
  pub known : mode ≤ 1
  pub points : true ≡ room elements_a is qs
  pub room : bytes_a mode ≤ length area
  pub empty : first_occupied is qs 0 elements_a ≡ elements_a
  pub legal : stray_at (received 2 is qs) ≡ point_count_a

-- a call is refused with this number, at place 0, and the area is as it was
abbrev pub RefusedWith : ℕ → List ℕ → ReceivedBurst → List ℕ → Type 0
RefusedWith number area answer after = (of_burst answer ≡ refused_burst number 0) × (after ≡ area)

module _ {mode : ℕ} {is qs : List ℤ} {area : List ℕ} (call : Legal mode is qs area) where
  -- of its checks the one for noise alone is left
  pub checks_left : (P : Checked Unit → Type 0) → P (noise_checked (dibits (received 2 is qs))) → P (receive_checked mode is qs area)
  checks_left P p =
      receivable P mode is qs area call.known call.points call.room (legal P is qs (omega (arith, call.empty)) (omega (arith, call.legal)) p)

  -- noise is refused, whatever its blocks hold and whatever its check is, and the area is as it was
  pub noise_refused : (answer : ReceivedBurst) (after : List ℕ) → ReceivingA mode is qs area answer after
      → most_differing < protected_differing (dibits (received 2 is qs)) → RefusedWith 11 area answer after
  noise_refused answer after receiving l =
      let bits = dibits (received 2 is qs) in
      let P : Checked Unit → Type 0 = λ k. Receives k mode bits area answer after → RefusedWith 11 area answer after in
      checks_left P (noise P bits l (λ p. p)) receiving

-- a frame goes up: the call is accepted, with so many bits mended, so many protected bits that differ and so many bits mended in the worst block, and the frame
-- stands at the front of the area
abbrev pub GoesUp : ℕ → List ℕ → ReceivedBurst → List ℕ → List ℕ → ℕ → ℕ → ℕ → Type 0
GoesUp mode area answer after frame mended differing worst =
    (of_received_a answer.answer ≡ accepted mended differing worst) × (after ≡ frame ++ drop (bytes_a mode) area)

module _ (mode : ℕ) (is qs : List ℤ) (area : List ℕ) (call : Legal mode is qs area) (answer : ReceivedBurst) (after : List ℕ)
    (receiving : ReceivingA mode is qs area answer after) (frame : List ℕ) (bytes : Bytes frame) (long : length frame ≡ bytes_a mode) where
  abbrev word : List ℕ
  word = carried (dibits (received 2 is qs))

  -- each block sent differs from the one received in no more places than may differ
  abbrev Near : Type 0
  Near = (block : ℕ) → block < 2 → count_at row_bits block (coded_a mode frame) word ≤ (wire_a mode).mends

  -- it is answered so, with the places of each half
  pub answered_near : Near → NoNoise (dibits (received 2 is qs))
      → (answer ≡ burst_of (total (wire_a mode) word frame) (protected_differing (dibits (received 2 is qs))) (worst (wire_a mode) word frame)
      (places_in 0 mode frame word) (places_in 1 mode frame word))
      × (after ≡ frame ++ drop (bytes_a mode) area)
  answered_near near few =
      let bits = dibits (received 2 is qs) in
      let made = burst_of (total (wire_a mode) word frame) (protected_differing bits) (worst (wire_a mode) word frame) (places_in 0 mode frame word)
      (places_in 1 mode frame word) in
      let left = frame ++ drop (bytes_a mode) area in
      let P : Checked Unit → Type 0 = λ k. Receives k mode bits area made left in
      let there : ReceivingA mode is qs area made left
      = checks_left call P (no_noise P bits few
      (inl (record { frame = frame; fits = record { long = long; bytes = bytes; near = near }; tells = refl; left = refl }))) in
      receive_a_once area answer made after left mode is qs receiving there

  pub up_when_near : Near → NoNoise (dibits (received 2 is qs))
      → GoesUp mode area answer after frame (total (wire_a mode) word frame) (protected_differing (dibits (received 2 is qs))) (worst (wire_a mode) word frame)
  up_when_near near few = let same = answered_near near few in (ap (λ (r : ReceivedBurst). of_received_a r.answer) same.0, same.1)

  pub near_when_up : (mended differing worst : ℕ) → GoesUp mode area answer after frame mended differing worst → Near × NoNoise (dibits (received 2 is qs))
  near_when_up mended differing worst up = (
    (up_fits mode is qs area answer after receiving mended differing worst up.0 frame long up.1).near,
    (goes mode is qs area answer after receiving mended differing worst up.0).1,
  )

-- ---- clean points

-- points received as they were sent, whatever stands behind them
module _ (mode : ℕ) (frame : List ℕ) (known : mode ≤ 1) (long : length frame ≡ bytes_a mode) (is qs : List ℤ)
    (area : List ℕ) (roomy : bytes_a mode ≤ length area) where
  abbrev points : List Point
  points = received 2 (sent_i mode frame ++ is) (sent_q mode frame ++ qs)

  same_points : points ≡ received 2 (sent_i mode frame) (sent_q mode frame)
  unfolding sent_i sent_q
  same_points = front_points 2 (points_a mode frame) is qs

  clean_call : Legal mode (sent_i mode frame ++ is) (sent_q mode frame ++ qs) area
  unfolding sent_i sent_q points_a
  clean_call = record {
    known = known;
    points = front_room 2 (points_a mode frame) is qs;
    room = roomy;
    empty = front_empty 2 (points_a mode frame) is qs;
    legal = ap stray_at same_points ∙ none_stray (framed (coded_a mode frame)) (length-framed (coded_a mode frame) (coded_long mode frame known long));
  }

  came_back : Bytes frame → (answer : ReceivedBurst) (after : List ℕ) → ReceivingA mode (sent_i mode frame ++ is) (sent_q mode frame ++ qs) area answer after
      → (answer ≡ burst_of 0 0 0 [] []) × (after ≡ frame ++ drop (bytes_a mode) area)
  came_back bytes answer after receiving =
      let word : carried (dibits points) ≡ coded_a mode frame = rw same_points (carried-again mode frame known long) in
      let field : protected (dibits points) ≡ fields = rw same_points (protected-again mode frame known long) in
      let up = answered_near mode _ _ area clean_call answer after receiving frame bytes long (rw word (fits_clean (wire_a mode) frame long bytes).near)
      (rw (field, differ_self fields) (omega arith)) in
      (simp (word, field, differ_self, worst_self, places_self) at up.0, up.1)

module _ (mode : ℕ) (frame : List ℕ) (is qs : List ℤ) (sent : Written) (is' qs' : List ℤ) (sending : SendingA mode frame is qs sent is' qs')
    (written : of_written sent ≡ accepted 0 0 0) (bytes : Bytes frame) (area : List ℕ) (roomy : bytes_a mode ≤ length area)
    (answer : ReceivedBurst) (after : List ℕ) (receiving : ReceivingA mode is' qs' area answer after) where
  -- clean points give back the frame that was sent, with nothing mended, no protected bit that differs, and no place listed
  pub round_trip : (answer ≡ burst_of 0 0 0 [] []) × (after ≡ frame ++ drop (bytes_a mode) area)
  round_trip =
      by_send (λ k. Sends k mode frame is qs sent is' qs' → (answer ≡ burst_of 0 0 0 [] []) × (after ≡ frame ++ drop (bytes_a mode) area))
      (λ number place l p. absurd (not_refused written p.0 l)) mode frame is qs
      (λ k e p. came_back mode frame k e (drop elements_a is) (drop elements_a qs) area roomy bytes answer after (rw (p.1, p.2) at receiving)) sending
