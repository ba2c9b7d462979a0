-- `sender_b::sender::coded` meets its contract: the checks of `encode_packed` pass for the bits of a coded mode.
-- Assumes nothing.
use Rattle.payload_b.specs.ModesB.{number_of}
use Rattle.payload_b.proofs.ModesB.{number_few, number_coded}
use Rattle.sender_b.proofs.Pieces.{packed_coded}
use Rattle.sender_b.proofs.sender.coded.Goals as goal

pub returns-in_default : goal.returns-in_default
returns-in_default c =
    let m = c.args.mode in
    packed_coded (number_of m) c.args.bits (number_few m) (number_coded m c.in_default.not-Uncoded) _ _ (rw c.code.ensures at c.encode_packed.ensures)
