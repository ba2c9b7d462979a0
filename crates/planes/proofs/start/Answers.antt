-- `planes::start` meets its contract: each lane has the three coefficients.
-- Assumes nothing.
use Rattle.planes.proofs.Quadratics.{start_law}
use Rattle.planes.proofs.start.Goals as goal

pub returns : goal.returns
returns c = start_law _ _ _ _ c.spread.ensures c.spread-2.ensures c.spread-3.ensures
