-- `planes::next` meets its contract: `times_a`, and then `plus`.
-- Assumes nothing.
use Rattle.planes.proofs.Spelling.{next_law}
use Rattle.planes.proofs.next.Goals as goal

pub returns : goal.returns
returns c = next_law _ _ _
