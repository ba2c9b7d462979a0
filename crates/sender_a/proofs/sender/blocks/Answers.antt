-- `sender_a::sender::blocks` meets its contract: each 248 of the 496 bits are one block's information.
-- Assumes nothing.
use Rattle.sender_a.proofs.Splitting.{first_part, second_part, second_whole}
use Rattle.sender_a.proofs.sender.blocks.Goals as goal

pub block-requires : goal.block-requires
block-requires c = first_part 248 c.args.information.now c.told-information c.requires

pub block-requires-2 : goal.block-requires-2
block-requires-2 c = second_part 248 c.args.information.now c.told-information c.requires

pub returns : goal.returns
returns c = cc (second_whole 248 _ c.told-information)
