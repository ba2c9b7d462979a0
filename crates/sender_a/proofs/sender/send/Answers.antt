-- `sender_a::sender::send` meets its contract: the 784 bits of a frame are bits, in both modes.
-- Assumes nothing.
use Rattle.payload_a.specs.CodedA.{points_a, sent_i, sent_q}
use Rattle.payload_a.specs.Modes.{number_of}
use Rattle.payload_a.proofs.Coding.{bits_coded_a}
use Rattle.payload_a.proofs.Known.{known}
use Rattle.sender_a.proofs.sender.send.Goals as goal

pub put_points-requires : goal.put_points-requires
put_points-requires c =
    let mode = c.args.mode in
    let p = c.requires in
    (rw c.carried.ensures (bits_coded_a (number_of mode) c.args.frame.now (known mode) p.0), p.1, p.2)

pub returns : goal.returns
unfolding sent_i sent_q points_a
returns c =
    let made = c.carried.ensures in
    let done = c.put_points.ensures in
    rw made at done
