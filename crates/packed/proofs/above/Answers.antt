-- `packed::above` meets its contract: a shift down leaves the highest digits.
-- Assumes nothing.
use native.Mathlib.Omega.{arith}
use Rattle.packed.proofs.Places.{above_none, above_some}
use Rattle.packed.proofs.above.Goals as goal

pub returns-then-p-eq0 : goal.returns-then-p-eq0
returns-then-p-eq0 c = let a = c.args in above_none a.x a.p c.if-p-eq0.true

pub returns-else-p-eq0 : goal.returns-else-p-eq0
returns-else-p-eq0 c = let a = c.args in above_some a.x a.p (omega arith)
