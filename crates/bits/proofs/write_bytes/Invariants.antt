-- `bits::write_bytes` meets its contract: the first i bytes are those of the bits so far.
-- Assumes nothing.
use Rattle.std.proofs.Common.{◌≡◌, take}
use Rattle.bits.specs.Bytes.{bytes_of}
use Rattle.bits.proofs.write_bytes.Given as goal

abbrev pub invariant-loop-i : goal.invariant-loop-i
invariant-loop-i l = take l.i l.out ≡ bytes_of l.i l.bits
