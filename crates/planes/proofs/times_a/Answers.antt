-- `planes::times_a` meets its contract: the digits move up by one, and a^9 is a^4 + 1.
-- Assumes nothing.
use Rattle.planes.proofs.Spelling.{times_a_law}
use Rattle.planes.proofs.times_a.Goals as goal

pub returns : goal.returns
returns c = times_a_law _
