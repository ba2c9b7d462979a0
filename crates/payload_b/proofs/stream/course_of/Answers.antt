-- `payload_b::stream::course_of` meets its contract: 0 is open, any other number a refusal.
-- Assumes nothing.
use borrow.Author.Tests.{eq-eqb, ne_eqb}
use Rattle.payload_b.proofs.stream.course_of.Goals as goal

pub returns-then-number-eq0 : goal.returns-then-number-eq0
returns-then-number-eq0 c = rw (eq-eqb c.args.number 0 c.if-number-eq0.true)

pub returns : goal.returns
returns c = rw (c.refusal_of.ensures, ne_eqb c.args.number 0 c.if-number-eq0.false)
