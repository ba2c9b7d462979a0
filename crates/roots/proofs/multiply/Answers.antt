-- `roots::multiply` meets its contract: the rows below w are done.
-- Assumes nothing.
use native.Mathlib.Numerals.{add-one}
use native.Mathlib.Omega.{arith}
use Rattle.roots.proofs.Rows.{upto_next, times_row}
use Rattle.roots.proofs.multiply.Goals as goal

pub loop-w-preserved : goal.loop-w-preserved
loop-w-preserved c =
    let loop = c.loop-w in
    let row = times_row _ _ _ _ _ _ loop.invariant (omega arith) c.planes_at.ensures c.planes_at-cubes.ensures c.product.ensures in
    upto_next _ _ _ _ _ _ _ loop.invariant (omega arith) row c.put.ensures (add-one _)
