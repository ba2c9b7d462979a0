-- `planes::all` meets its contract: 0 or 1 times the machine word of 64 ones.
-- Assumes nothing.
use Rattle.planes.proofs.Masks.{all_law}
use Rattle.planes.proofs.all.Goals as goal

pub returns : goal.returns
returns c = all_law _
