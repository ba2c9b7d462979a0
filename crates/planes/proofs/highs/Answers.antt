-- `planes::highs` meets its contract: what `digit` adds, three times.
-- Assumes nothing.
use Rattle.planes.proofs.Quadratics.{highs_law}
use Rattle.planes.proofs.highs.Goals as goal

pub returns : goal.returns
returns c =
    highs_law _ _ _ _ _ _ _ _ _ _
    c.times_a-d7.ensures
    c.times_a.ensures
    c.times_a-e7.ensures
    c.times_a-d8.ensures
    c.times_a-2.ensures
    c.times_a-e8.ensures
    c.sum.ensures
    c.sum-2.ensures
    c.sum-3.ensures
