-- `roots::told` meets its contract.
-- Assumes nothing.
use native.Mathlib.Omega.{arith}
use Rattle.roots.proofs.Rows.{seen_all}
use Rattle.roots.proofs.told.Goals as goal

pub returns : goal.returns
returns c = seen_all _ _ _ c.loop-w.invariant (omega arith)
