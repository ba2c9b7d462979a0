-- `packed::below` meets its contract: as across two machine words, counted from the low end.
-- Assumes nothing.
use native.Mathlib.Omega.{arith}
use Rattle.packed.proofs.Places.{below_none, below_some}
use Rattle.packed.proofs.below.Goals as goal

pub returns-then-p-eq0 : goal.returns-then-p-eq0
returns-then-p-eq0 c = let a = c.args in below_none a.high a.low a.p c.if-p-eq0.true

pub returns-else-p-eq0 : goal.returns-else-p-eq0
returns-else-p-eq0 c = let a = c.args in below_some a.high a.low a.p (omega arith) (omega arith)
