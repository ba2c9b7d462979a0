-- `payload::scrambler::pack_bytes` meets its contract: machine word after machine word, and then one that is not whole.
-- Assumes nothing.
use Rattle.payload.proofs.Packing.{Packing}
use Rattle.payload.proofs.scrambler.pack_bytes.Given as goal

abbrev pub invariant-loop-w : goal.invariant-loop-w
invariant-loop-w l = Packing l.register l.bytes l.out l.s l.w
