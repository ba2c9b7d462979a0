-- `planes::plus` meets its contract: each digit of v, and that of x times the bit of y.
-- Assumes nothing.
use Rattle.planes.proofs.Spelling.{plus_law}
use Rattle.planes.proofs.plus.Goals as goal

pub returns : goal.returns
returns c = plus_law _ _ _
