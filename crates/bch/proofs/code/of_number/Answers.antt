-- `bch::code::of_number` meets its contract: each of the three is sound, and is the code of its number.
-- Assumes nothing.
use Rattle.bch.proofs.Generators.{rooted1, rooted2, rooted3}
use Rattle.bch.proofs.Sounds.{sound}
use Rattle.bch.proofs.code.of_number.Goals as goal

pub returns-in-1 : goal.returns-in-1
returns-in-1 c = (sound _ rooted1 tt tt tt tt tt, rw c.in-1.is)

pub returns-in-2 : goal.returns-in-2
returns-in-2 c = (sound _ rooted2 tt tt tt tt tt, rw c.in-2.is)

pub returns-in-3 : goal.returns-in-3
returns-in-3 c = (sound _ rooted3 tt tt tt tt tt, rw c.in-3.is)
