-- `planes::quadratic` meets its contract: six digits by lanes, three by rows.
-- Assumes nothing.
use Rattle.planes.proofs.Quadratics.{quadratic_law}
use Rattle.planes.proofs.quadratic.Goals as goal

pub returns : goal.returns
returns c = quadratic_law _ _ _ _ _ _ c.start.ensures c.lows.ensures c.highs.ensures
