-- `payload::scrambler::add_eight` meets its contract: digit after digit.
-- Assumes nothing.
use mathlib.Core.Path.{◌≡◌, refl, sym, ap, ◌∙◌}
use Prim.Native.Nat.{ℕ, suc, ◌-◌, ◌/◌, ◌%◌, ◌^◌, ◌<◌}
use native.Mathlib.Omega.{arith}
use lib.Bits.{bit_and, and_mask}
use lib.ListN.{get_or}
use Rattle.bits.specs.Words.{digits}
use Rattle.bits.proofs.Digits.{length_digits}
use Rattle.bits.proofs.Shifts.{digits_at}
use Rattle.payload.proofs.Turns.{added_more, added_all}
use Rattle.payload.proofs.scrambler.add_eight.Goals as goal

digit_of : (key i : ℕ) → i < 8 → bit_and (key / 2 ^ (7 - i)) 1 ≡ get_or (digits 8 key) i 0
digit_of key i h =
    let e : 8 - suc i ≡ 7 - i = omega arith in
    and_mask (key / 2 ^ (7 - i)) 1 ∙ ap (λ (n : ℕ). key / 2 ^ n % 2) (sym e) ∙ sym (digits_at 8 i key h)

pub loop-i-init : goal.loop-i-init
loop-i-init c = refl

pub loop-i-preserved : goal.loop-i-preserved
loop-i-preserved c =
    let l = c.loop-i in
    let key = c.args.key in
    added_more (digits 8 key) l.bits l.i _ (omega arith) (omega (arith, length_digits 8 key)) (digit_of key l.i (omega arith)) ∙ l.invariant

pub returns : goal.returns
returns c = let l = c.loop-i in sym (added_all (digits 8 c.args.key) l.bits l.i (omega arith)) ∙ l.invariant
