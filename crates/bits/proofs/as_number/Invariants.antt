-- `bits::as_number` meets its contract: x is the number of the bits so far, modulo 2^32.
-- Assumes nothing.
use Rattle.std.proofs.Common.{◌≡◌, ◌%◌, ◌^◌, take}
use Rattle.bits.specs.Bytes.{as_number}
use Rattle.bits.proofs.as_number.Given as goal

abbrev pub invariant-loop-b : goal.invariant-loop-b
invariant-loop-b l = l.x ≡ as_number (take l.b-index l.bits) % 2 ^ 32
