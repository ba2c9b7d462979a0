-- `payload::scrambler::scramble_last` meets its contract: byte after byte, and then all of them moved up.
-- Assumes nothing.
use Rattle.payload.proofs.Packing.{Gathered}
use Rattle.payload.proofs.scrambler.scramble_last.Given as goal

abbrev pub invariant-loop-byte : goal.invariant-loop-byte
invariant-loop-byte l = Gathered l.register l.bytes l.x l.s l.byte-index
