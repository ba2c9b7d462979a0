-- `receiver_a::receiver::legal` meets its contract: the two OFDM symbols, read one after the other, are the bits of the burst.
-- Assumes nothing.
use Rattle.receiver_a.proofs.Bursts.{burst_read, burst_pair}
use Rattle.receiver_a.proofs.receiver.legal.Goals as goal

pub read-requires : goal.read-requires
read-requires c =
    let h = c.requires in
    (burst_pair c.args.i.now c.args.q.now h.0 h.1 h.3 c.read-first.ensures c.read-second.ensures, h.2)

pub returns : goal.returns
returns c =
    let h = c.requires in
    rw (burst_read c.args.i.now c.args.q.now h.0 h.1 h.3 c.read-first.ensures c.read-second.ensures) at c.read.ensures
