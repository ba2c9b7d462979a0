-- `bits::any` meets its contract: where all is below 2, no element so far is bad.
-- Assumes nothing.
use Rattle.std.proofs.Common.{ℕ, List, length, ◌+◌, ◌≤◌, ◌<◌}
use native.Mathlib.Omega.{arith}
use lib.Bits.{bit_or, or_add_and, and_le_l, and_le_r}
use lib.ListN.{get_or}
use borrow.Author.Tests.{le-ltb}
use Rattle.ground.proofs.Firsts.{first_later}
use Rattle.bits.specs.Words.{first_bad}
use Rattle.bits.proofs.Digits.{all_bits}
use Rattle.bits.proofs.any.Goals as goal

-- a turn: neither all nor the element at i is above the OR of the two
turn : (w : List ℕ) (i all : ℕ) → i < length w → (all < 2 → i ≤ first_bad w) → bit_or all (get_or w i 0) < 2 → i + 1 ≤ first_bad w
turn w i all l none h =
    let x : ℕ = get_or w i 0 in
    let both = or_add_and all x in
    first_later _ 0 w i (none (omega (arith, both, and_le_r all x))) l (le-ltb 1 x (omega (arith, both, and_le_l all x)))

pub loop-b-preserved : goal.loop-b-preserved
loop-b-preserved c =
    let l = c.loop-b in
    turn c.args.word.now l.b-index l.all (omega arith) l.invariant

pub returns : goal.returns
returns c = λ h. all_bits c.args.word.now (omega (arith, c.loop-b.invariant h))
