-- `receiver_b::step_b` meets its contract: it is the step with the scheme lent.
-- Assumes nothing.
use Rattle.receiver_b.proofs.step_b.Goals as goal

pub returns : goal.returns
returns c =
    rw c.with_scheme.ensures (rw c.without_scheme.ensures at c.step_lent-moved.ensures)
