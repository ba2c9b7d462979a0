-- `report::mode_for` meets its contract: the test is the definition's.
-- Assumes nothing.
use borrow.Author.Tests.{eq-eqb, ne_eqb}
use Rattle.report.proofs.mode_for.Goals as goal

pub returns-then-n-eq94 : goal.returns-then-n-eq94
returns-then-n-eq94 c = rw (eq-eqb c.args.n 94 c.if-n-eq94.true)

pub returns-else-n-eq94 : goal.returns-else-n-eq94
returns-else-n-eq94 c = rw (ne_eqb c.args.n 94 c.if-n-eq94.false)
