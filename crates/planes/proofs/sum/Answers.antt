-- `planes::sum` meets its contract: elements are added digit by digit.
-- Assumes nothing.
use Rattle.planes.proofs.Spelling.{sum_law}
use Rattle.planes.proofs.sum.Goals as goal

pub returns : goal.returns
returns c = sum_law _ _
