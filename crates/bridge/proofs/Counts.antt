-- Counts fit their fields.
-- Assumes nothing.
use mathlib.Core.Path.{◌≡◌, refl, sym, ap, subst}
use mathlib.Core.Logic.{inl, inr}
use mathlib.Core.Bool.{Bool, true, false, cond, ◌&&◌}
use mathlib.Core.List.{List}
use Prim.Native.Nat.{ℕ, zero, suc, ◌*◌, ◌≤◌, ◌<◌}
use native.Mathlib.Nat.{mul_comm, mul-le-mul_left}
use native.Mathlib.Omega.{arith}
use borrow.Author.Tests.{ltb-true}
use lib.Dec.{eqb, leb, ltb}
use lib.IntN.{ℤ}
use lib.ListN.{length}
use Rattle.answers.specs.Answers.{accepted, refused, of_written, of_decoded, of_received_a, of_received_b, ReceivedA, ReceivedB, Written, counted_a, counted_b}
use Rattle.answers.specs.Checks.{Checked, fails, passes}
use Rattle.answers.specs.declared.Told.{Told}
use Rattle.answers.specs.declared.DecodedWord.{DecodedWord}
use Rattle.answers.specs.declared.ReceivedBurst.{ReceivedBurst}
use Rattle.answers.proofs.Telling.{word_told, because_is, by_test}
use Rattle.bits.proofs.Distances.{differ-le}
use Rattle.bch.specs.Codes.{Code}
use Rattle.bch.specs.Promise.{Decodes, Decoding}
use Rattle.bch.proofs.Once.{by_check}
use Rattle.payload_a.specs.PromiseA.{wire_a, ReceivingA}
use Rattle.payload_a.proofs.TripsA.{sent_again, quality_a}
use Rattle.payload_b.specs.CodedB.{blocks_in, bits_for, symbols_for}
use Rattle.symbols.specs.Grid.{sub_carriers}
use Rattle.symbols.specs.Grids.{room}
use Rattle.symbols.specs.Schemes.{sum_of}
use Rattle.payload_b.specs.PromiseB.{mends_b, points_checked_b, ReceivingB}
use Rattle.payload_b.specs.PlanB.{Sendable}
use Rattle.payload_b.specs.StreamB.{sound, Kept, step_checked, Takes, Steps, SteppingB}
use Rattle.payload_b.specs.declared.stream.State.{State}
use Rattle.payload_b.specs.declared.stream.Course.{Course}
use Rattle.payload_b.specs.declared.stream.Course.TheVariants.{Open, Refused}
use Rattle.symbols.proofs.Schemes.{sum_most}
use Rattle.payload_b.proofs.Plans.{symbols_hold}
use Rattle.payload_b.proofs.TripsB.{up_sendable, quality_b}
use Rattle.payload_b.proofs.StatesB.{after_few, sound_kept}
use Rattle.payload_b.proofs.GivenB.{onward_kept}
use Rattle.payload_b.specs.Courses.{told_of}
use Rattle.std.specs.Prelude.{Ok, Err}

-- what is told has at most so many bits mended, so many protected bits that differ, and so many bits mended in the worst block
pub record Few (m p w : ℕ) (t : Told) : Type 0 where
  pub mended : t.mended ≤ m
  pub protected : t.protected ≤ p
  pub worst : t.worst ≤ w

few_accepted : {m p w i j k : ℕ} {t : Told} → t ≡ accepted i j k → i ≤ m → j ≤ p → k ≤ w → Few m p w t
few_accepted e a b c = record { mended = rw e a; protected = rw e b; worst = rw e c }

few_refused : {m p w number place : ℕ} {t : Told} → t ≡ refused number place → Few m p w t
few_refused e = record { mended = rw e (omega arith); protected = rw e (omega arith); worst = rw e (omega arith) }

-- ---- encode, and sending: no counts

pub few_written : (a : Written) → Few 0 0 0 (of_written a)
few_written (Ok counts) = few_accepted refl (omega arith) (omega arith) (omega arith)
few_written (Err why) = few_refused (because_is why)

-- ---- opening: none either

pub few_opened : (c : Course) → Few 0 0 0 (told_of c)
few_opened Open = few_accepted refl (omega arith) (omega arith) (omega arith)
few_opened (Refused why) = few_refused (because_is why)

-- ---- decode

module _ (word out : List ℕ) (a : DecodedWord) (after : List ℕ) where
  abbrev FewIn : Checked Code → Type 0
  FewIn k = Decodes k word out a after → Few 511 0 0 (of_decoded a.answer)

  passed : (d : Code) → d.n ≤ 511 → length word ≡ d.n → FewIn (passes d)
  passed d l e (inl p) =
      few_accepted (word_told a p.tells) (differ-le p.codeword word 511 (omega (arith, p.within.codeword.long)) (omega arith)) (omega arith)
      (omega arith)
  passed d l e (inr p) = few_refused (word_told a p.tells)

  pub few_decoded : (c : ℕ) → Decoding c word out a after → Few 511 0 0 (of_decoded a.answer)
  few_decoded = by_check FewIn (λ d. d.n) word out (λ number place p. few_refused (word_told a p.0)) (λ d rooted. passed d rooted.places)

-- ---- receiving Payload A: 16 bits in each of two blocks, 12 protected bits

mends_a : (mode : ℕ) → (wire_a mode).mends ≤ 16
mends_a mode = by (eqb mode 0)
  where
    by : (b : Bool) → cond b 0 16 ≤ 16
    by true = omega arith
    by false = omega arith

module _ (area : List ℕ) (answer : ReceivedBurst) (after : List ℕ) where
  pub few_received_a : (mode : ℕ) (is qs : List ℤ) → ReceivingA mode is qs area answer after → Few 32 12 16 (of_received_a answer.answer)
  few_received_a mode is qs receiving = by answer.answer refl
    where
      by : (r : ReceivedA) → answer.answer ≡ r → Few 32 12 16 (of_received_a r)
      by (Ok counts) e =
          let q = quality_a mode is qs area answer after receiving counts.mended counts.protected counts.worst (ap of_received_a e) in
          let again = sent_again mode is qs area answer after receiving counts.mended counts.protected counts.worst (ap of_received_a e) in
          few_accepted refl (omega (arith, q.high, q.near, mends_a mode)) (omega (arith, again.3)) (omega (arith, q.near, mends_a mode))
      by (Err why) e = few_refused (because_is why)

-- ---- receiving Payload B: 8 bits in each of 1,066 blocks, or 4 in each of 1,058

-- 256 OFDM symbols have at most 537,600 bits
bits_most : {mode n : ℕ} {scheme : List ℕ} → Sendable mode n scheme → bits_for mode n ≤ 537600
bits_most {mode} {n} {scheme} plan = omega (arith, symbols_hold plan, mul-le-mul_left (sum_of scheme) plan.few, sum_most plan.entries)

few_blocks : (mode n m w : ℕ) → mode ≤ 2 → bits_for mode n ≤ 537600 → m ≤ blocks_in mode n * w → w ≤ mends_b mode → (m ≤ 8528) × (w ≤ 8)
few_blocks zero n m w known most high near =
    let b = blocks_in 0 n in let z : w ≡ 0 = omega arith in let none : m ≤ b * 0 = rw z at high in (omega arith, omega arith)
few_blocks (suc zero) n m w known most high near =
    let b = blocks_in 1 n in let l : b * w ≤ b * 4 = mul-le-mul_left b near in (omega arith, omega arith)
few_blocks (suc (suc zero)) n m w known most high near =
    let b = blocks_in 2 n in let l : b * w ≤ b * 8 = mul-le-mul_left b near in (omega arith, omega arith)
few_blocks (suc (suc (suc mode))) n m w known most high near = absurd (omega arith)

pub few_received_b : (area : List ℕ) (answer : ReceivedB) (after : List ℕ) (mode n : ℕ) (scheme : List ℕ) (is qs : List ℤ)
    → ReceivingB mode n scheme is qs area answer after → Few 8528 0 8 (of_received_b answer)
few_received_b area (Ok counts) after mode n scheme is qs receiving =
    let m = counts.mended in
    let w = counts.worst in
    let q = quality_b mode n scheme is qs area (counted_b m w) after receiving m w refl in
    let plan = up_sendable mode n scheme is qs area (counted_b m w) after receiving m w refl in
    let few = few_blocks mode n m w plan.known (bits_most plan) q.high q.near in
    few_accepted refl few.0 (omega arith) few.1
few_received_b area (Err why) after mode n scheme is qs receiving = few_refused (because_is why)

-- ---- a step: the counts are over the blocks complete so far

kept_few : (s : State) → Kept s → (s.mended ≤ 8528) × (s.worst ≤ 8)
kept_few s kept =
    let plan = kept.sendable in
    let blocks = blocks_in s.mode s.size in
    let high = mul-le-mul_left s.worst (after_few plan s.seen) in
    few_blocks s.mode s.size s.mended s.worst plan.known (bits_most plan)
    (omega (arith, kept.most, high, mul_comm blocks s.worst)) kept.near

module _ (s : State) (is qs : List ℤ) (area : List ℕ) (answer : ReceivedB) (s' : State) (area' : List ℕ) where
  abbrev FewAfter : Checked Unit → Type 0
  FewAfter k = Steps k s is qs area answer s' area' → Few 8528 0 8 (of_received_b answer)

  took : Kept s → s.seen < symbols_for s.mode s.size s.scheme → (k : Checked Unit) → Takes k s is qs area answer s' area'
      → Few 8528 0 8 (of_received_b answer)
  took kept l (fails number index) p = few_refused p.tells
  took kept l (passes _) (inl p) =
      let few = kept_few s' (subst Kept (sym p.state) (onward_kept s kept is qs l p.out p.fits)) in
      few_accepted p.tells few.0 (omega arith) few.1
  took kept l (passes _) (inr p) = few_refused p.stops.tells

  checked : (c : Course) → FewAfter (step_checked c s is qs area)
  checked (Refused why) = λ p. few_refused p.0
  checked Open =
      by_test FewAfter (sound s)
      (λ is_sound. by_test FewAfter (ltb s.seen (symbols_for s.mode s.size s.scheme))
      (λ few. by_test FewAfter (room sub_carriers is qs && leb s.size (length area))
      (λ _. took (sound_kept s is_sound) (ltb-true s.seen (symbols_for s.mode s.size s.scheme) few) (points_checked_b 1 s.scheme is qs))
      (λ _ p. few_refused p.0))
      (λ _ p. few_refused p.0))
      (λ _ p. few_refused p.0)

  pub few_stepped : SteppingB s is qs area answer s' area' → Few 8528 0 8 (of_received_b answer)
  few_stepped = checked s.course
