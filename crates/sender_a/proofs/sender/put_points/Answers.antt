-- `sender_a::sender::put_points` meets its contract: the two blocks are two OFDM symbols, the phase carried on.
-- Assumes nothing.
use Rattle.sender_a.proofs.Symbols.{both_written}
use Rattle.sender_a.proofs.sender.put_points.Goals as goal

pub returns : goal.returns
returns c =
    let a = c.args in
    both_written a.bits.now c.requires.0 c.told-bits a.i.now a.q.now c.requires.1 c.requires.2
    (rw c.symbol.ensures at c.write-last.ensures)
    (rw c.symbol-2.ensures at c.write.ensures)
