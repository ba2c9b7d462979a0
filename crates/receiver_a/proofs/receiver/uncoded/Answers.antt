-- `receiver_a::receiver::uncoded` meets its contract: what is delivered to the first 94 bytes of the area is the frame.
-- Assumes nothing.
use lib.Seq.{length-take-le}
use Rattle.std.proofs.lemmas.Result.{err_from_is_err_and}
use Rattle.receiver_a.specs.Steps.{flat_of}
use Rattle.receiver_a.proofs.Settling.{both_long, both_bits, uncoded_right, uncoded_wrong}
use Rattle.receiver_a.proofs.receiver.uncoded.Goals as goal

pub deliver-requires : goal.deliver-requires
deliver-requires c =
    let e = c.flat-bits.ensures in
    (rw e (both_bits c.requires.0), rw (e, length-take-le 94 c.args.area.now c.requires.1) (both_long c.requires.0))

pub returns : goal.returns
returns c =
    uncoded_right (flat_of c.args.rows) c.args.area.now c.args.differing c.deliver.new.area c.requires.1
    (rw (c.flat-bits.ensures, c.in_ok-deliver.was) at c.deliver.ensures)

pub returns-in_err-deliver : goal.returns-in_err-deliver
returns-in_err-deliver c =
    let p = err_from_is_err_and c.from_residual.result c.from_residual.ensures.1 in
    rw (p.1, p.2) (uncoded_wrong (flat_of c.args.rows) c.args.area.now c.args.differing c.deliver.new.area c.requires.1 (both_long c.requires.0)
    (rw (c.flat-bits.ensures, c.in_err-deliver.was) at c.deliver.ensures))
