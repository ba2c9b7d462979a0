-- `sender_a::sender::coded` meets its contract: the two blocks stand one behind the other.
-- Assumes nothing.
use Rattle.payload_a.specs.CodedA.{blocks_a}
use Rattle.payload_a.proofs.Coding.{bits_information}
use Rattle.sender_a.proofs.sender.coded.Goals as goal

pub blocks-requires : goal.blocks-requires
blocks-requires c = rw c.put_information.ensures (bits_information c.args.frame.now)

pub returns : goal.returns
unfolding blocks_a
returns c = rw (c.blocks-2.ensures, c.put_information.ensures) at c.flat.ensures
