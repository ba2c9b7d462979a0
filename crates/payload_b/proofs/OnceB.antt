-- The promise of Payload B leaves one answer and one memory, for every mode, length, frame, scheme, grid and lent list; and so do the checks 1, 2, 5 and 6.
-- Assumes nothing.
use mathlib.Core.Path.{◌≡◌, sym, ap, ◌∙◌}
use mathlib.Core.Logic.{◌≢◌, inl, inr}
use mathlib.Core.Bool.{true, false, ◌&&◌, and-eq-true_iff}
use mathlib.Core.List.{List}
use Prim.Native.Nat.{ℕ, ◌%◌, ◌<◌}
use native.Mathlib.Omega.{arith}
use borrow.Author.Tests.{ltb-true, ltb-false, leb-true, eqb-true}
use lib.Dec.{eqb, leb, ltb}
use lib.IntN.{ℤ}
use lib.ListN.{length}
use lib.Seq.{length-take-le}
use Rattle.std.specs.Prelude.{Result, Ok, Err}
use Rattle.answers.specs.Answers.{refused, ReceivedB, Written}
use Rattle.answers.specs.Checks.{Checked, fails, passes}
use Rattle.answers.specs.declared.Refusal.{Refusal}
use Rattle.answers.proofs.Telling.{refusal_of, refusal_of_lem, because_is, written_same, received_b_same, by_test}
use Rattle.symbols.specs.Grids.{received}
use Rattle.payload.specs.Scrambler.{start}
use Rattle.payload.specs.Wire.{Fits, FirstHopeless}
use Rattle.payload.proofs.Wires.{fits_hopeless, one_hopeless}
use Rattle.payload_b.specs.CodedB.{block_bytes, code_b, blocks_in, bits_for, symbols_for}
use Rattle.symbols.specs.Schemes.{repeated, labelled, bad_entry}
use Rattle.payload_b.specs.PromiseB.{planned, SendsB, SendingB, send_checked_b, grid_checked, bits_received, wire_b, ReceivesB, ReceivingB}
use Rattle.payload_b.specs.PlanB.{Sendable, plan_of, Judged}
use Rattle.payload_b.specs.declared.plan.Plan.{Plan}
use Rattle.symbols.proofs.Schemes.{bad_most}
use Rattle.symbols.proofs.Mapping.{length_symbols}
use Rattle.payload_b.proofs.Plans.{plan_passes, symbols_hold}
use Rattle.payload_b.proofs.Blocks.{coded}
use Rattle.payload_b.proofs.Blockwise.{codeword_b}
use Rattle.payload_b.proofs.UniqueB.{fits_once_b}

-- ---- send

module _ (mode : ℕ) (frame scheme : List ℕ) (is qs : List ℤ) (a b : Written) (is1 qs1 is2 qs2 : List ℤ) where
  one_sent : (k : Checked Unit) → SendsB k mode frame scheme is qs a is1 qs1 → SendsB k mode frame scheme is qs b is2 qs2
      → (a ≡ b) × (is1 ≡ is2) × (qs1 ≡ qs2)
  one_sent (fails number place) p q = (written_same a b (cc), cc, cc)
  one_sent (passes _) p q = (written_same a b (cc), cc, cc)

  pub send_b_once : SendingB mode frame scheme is qs a is1 qs1 → SendingB mode frame scheme is qs b is2 qs2 → (a ≡ b) × (is1 ≡ is2) × (qs1 ≡ qs2)
  send_b_once = one_sent (send_checked_b mode frame scheme is qs)

-- ---- the checks 1, 2, 5 and 6: one fails, or there is a sendable

pub by_plan : (P : Checked Unit → Type 0) (mode n : ℕ) (scheme : List ℕ) (next : Checked Unit) → ((number place : ℕ) → 0 < number → P (fails number place))
    → (Sendable mode n scheme → P next) → P (planned mode n scheme next)
by_plan P mode n scheme next failed planning =
    by_test P (leb mode 2)
    (λ known. by_test P (ltb 0 n && eqb (n % block_bytes mode) 0)
    (λ some. by_test P (eqb (length scheme) 210)
    (λ long. by_test P (ltb (bad_entry scheme) 210) (λ _. failed 5 (bad_entry scheme) (omega arith))
    (λ good. by_test P (leb (symbols_for mode n scheme) 256) (λ few. planning (sendable known some long good few)) (λ _. failed 6 0 (omega arith))))
    (λ _. failed 5 210 (omega arith)))
    (λ _. failed 2 0 (omega arith)))
    (λ _. failed 1 0 (omega arith))
  where
    sendable : leb mode 2 ≡ true → (ltb 0 n && eqb (n % block_bytes mode) 0) ≡ true → eqb (length scheme) 210 ≡ true → ltb (bad_entry scheme) 210 ≡ false
        → leb (symbols_for mode n scheme) 256 ≡ true → Sendable mode n scheme
    sendable known some long good few =
        let both = (and-eq-true_iff (ltb 0 n) (eqb (n % block_bytes mode) 0)).0 some in
        let l = eqb-true (length scheme) 210 long in
        record {
          known = leb-true mode 2 known;
          some = ltb-true 0 n both.0;
          whole = eqb-true (n % block_bytes mode) 0 both.1;
          entries = record { long = l; entries = omega (arith, bad_most scheme, ltb-false (bad_entry scheme) 210 good) };
          few = leb-true (symbols_for mode n scheme) 256 few;
        }

-- a verdict is what they find, with the sendable
judged_of : Plan → Checked Unit → Result Plan Refusal
judged_of plan (fails number place) = Err (refusal_of (refused number place))
judged_of plan (passes _) = Ok plan

judged_of_lem : (mode n : ℕ) (scheme : List ℕ) (a : Result Plan Refusal) → Judged mode n scheme a → judged_of (plan_of mode n scheme) (planned mode n scheme (passes tt)) ≡ a
unfolding judged_of
judged_of_lem mode n scheme (Ok plan) p = ap (judged_of (plan_of mode n scheme)) (plan_passes p.0 (passes tt)) ∙ ap Ok (sym p.1)
judged_of_lem mode n scheme (Err why) p = ap (judged_of (plan_of mode n scheme)) (p (passes tt)) ∙ ap Err (ap refusal_of (sym (because_is why)) ∙ refusal_of_lem why)

pub judged_once : (mode n : ℕ) (scheme : List ℕ) (a b : Result Plan Refusal) → Judged mode n scheme a → Judged mode n scheme b → a ≡ b
judged_once mode n scheme a b p q = sym (judged_of_lem mode n scheme a p) ∙ judged_of_lem mode n scheme b q

-- ---- receive

-- the bits received are as many as were sent
pub length_bits : {mode n : ℕ} {scheme : List ℕ} → Sendable mode n scheme → (is qs : List ℤ) → length (bits_received mode n scheme is qs) ≡ bits_for mode n
length_bits {mode} {n} {scheme} sendable is qs =
    let m = symbols_for mode n scheme in
    length-take-le (bits_for mode n) (labelled (repeated m scheme) (received m is qs))
    (rw (length_symbols scheme sendable.entries.long m is qs) (symbols_hold sendable))

module _ (area : List ℕ) (a b : ReceivedB) (u v : List ℕ) where
  module _ {mode n : ℕ} {scheme : List ℕ} (sendable : Sendable mode n scheme) (bits : List ℕ) (long : length bits ≡ bits_for mode n) where
    -- where a frame fits, no block is hopeless
    not_hopeless : (frame : List ℕ) → Fits (wire_b mode n) bits frame → mode ≢ 0 → (block : ℕ) → FirstHopeless (code_b mode) (blocks_in mode n) bits block → ⊥
    not_hopeless frame fits not =
        let c = coded mode sendable.known not in
        fits_hopeless (wire_b mode n) (code_b mode) (sym c.whole) (sym c.mends) (codeword_b mode start n sendable.known sendable.whole not) bits frame fits

    answered_same : ReceivesB (passes tt) mode n bits area a u → ReceivesB (passes tt) mode n bits area b v → (a ≡ b) × (u ≡ v)
    answered_same (inl p) (inl q) =
        let same = fits_once_b mode n sendable.known sendable.whole bits p.frame q.frame long p.fits q.fits in
        (received_b_same a b (cc), cc)
    answered_same (inl p) (inr q) = absurd (not_hopeless p.frame p.fits q.coded q.block q.hopeless)
    answered_same (inr p) (inl q) = absurd (not_hopeless q.frame q.fits p.coded p.block p.hopeless)
    answered_same (inr p) (inr q) =
        let same = one_hopeless (code_b mode) (blocks_in mode n) bits p.block q.block p.hopeless q.hopeless in
        (received_b_same a b (cc), cc)

  pub receive_b_once : (mode n : ℕ) (scheme : List ℕ) (is qs : List ℤ) → ReceivingB mode n scheme is qs area a u → ReceivingB mode n scheme is qs area b v
      → (a ≡ b) × (u ≡ v)
  receive_b_once mode n scheme is qs = by_plan Same mode n scheme next (λ number place _. failed number place) (λ sendable. one sendable next)
    where
      next : Checked Unit
      next = grid_checked (symbols_for mode n scheme) n scheme is qs area

      bits : List ℕ
      bits = bits_received mode n scheme is qs

      Same : Checked Unit → Type 0
      Same k = ReceivesB k mode n bits area a u → ReceivesB k mode n bits area b v → (a ≡ b) × (u ≡ v)

      failed : (number place : ℕ) → Same (fails number place)
      failed number place p q = (received_b_same a b (cc), cc)

      one : Sendable mode n scheme → (k : Checked Unit) → Same k
      one sendable (fails number place) = failed number place
      one sendable (passes _) = answered_same sendable bits (length_bits sendable is qs)
