-- `roots::zeros` meets its contract: Horner's rule from the highest three coefficients down to the lowest.
-- Assumes nothing.
use native.Mathlib.Omega.{arith}
use Rattle.roots.proofs.Horner.{reached_first, reached_all}
use Rattle.roots.proofs.zeros.Goals as goal

pub returns : goal.returns
returns c =
    let first = reached_first c.args.locator.now _ _ _ c.triple.ensures c.fill.ensures in
    rw c.min-top.ensures at (reached_all c.args.locator.now _ _ _ (c.go_down.ensures _ (omega arith) first) c.told.ensures)
