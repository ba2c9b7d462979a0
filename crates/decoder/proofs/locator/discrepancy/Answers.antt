-- `decoder::locator::discrepancy` meets its contract: d is the sum of the terms before j, and the terms behind len are zero.
-- Assumes nothing.
use Prim.Native.Nat.{◌+◌, ◌-◌}
use native.Mathlib.Numerals.{add-one}
use native.Mathlib.Omega.{arith}
use Rattle.decoder.proofs.Coefficients.{summed_none, summed_more, summed_all}
use Rattle.decoder.proofs.locator.discrepancy.Goals as goal

pub loop-j-init : goal.loop-j-init
loop-j-init c = summed_none

pub loop-j-preserved : goal.loop-j-preserved
loop-j-preserved c = rw (add-one, c.product-d.ensures) (summed_more c.loop-j.invariant)

pub returns : goal.returns
returns c =
    let l = c.loop-j in
    (summed_all (c.args.r + 1 - l.j) c.requires.2 (omega arith) (omega arith) l.invariant, l.invariant.small)
