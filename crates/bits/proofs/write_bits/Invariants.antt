-- `bits::write_bits` meets its contract: what is written so far are the bits of the first i bytes.
-- Assumes nothing.
use Rattle.std.proofs.Common.{◌≡◌, ◌*◌, take}
use Rattle.bits.specs.Bytes.{bits_of}
use Rattle.bits.proofs.write_bits.Given as goal

abbrev pub invariant-loop-i : goal.invariant-loop-i
invariant-loop-i l = take (l.i * 8) l.out ≡ bits_of (take l.i l.frame)
