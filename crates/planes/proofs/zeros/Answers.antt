-- `planes::zeros` meets its contract: the lanes at which the OR of all planes has none.
-- Assumes nothing.
use Rattle.planes.proofs.Vanishings.{zeros_law}
use Rattle.planes.proofs.zeros.Goals as goal

pub returns : goal.returns
returns c = zeros_law _
