-- `planes::digit` meets its contract: the digit is its own square.
-- Assumes nothing.
use Rattle.planes.proofs.Quadratics.{digit_law}
use Rattle.planes.proofs.digit.Goals as goal

pub returns : goal.returns
returns c =
    digit_law _ _ _ _ _ _ _
    c.sum.ensures
    c.plus.ensures
    c.times_a.ensures
    c.times_a-2.ensures
    c.times_a-3.ensures
