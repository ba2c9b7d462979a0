-- `planes::only` meets its contract: each digit of x times the bit of y.
-- Assumes nothing.
use Rattle.planes.proofs.Spelling.{only_law}
use Rattle.planes.proofs.only.Goals as goal

pub returns : goal.returns
returns c = only_law _ _
