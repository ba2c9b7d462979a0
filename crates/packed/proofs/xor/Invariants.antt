-- `packed::xor` meets its contract: machine word after machine word.
-- Assumes nothing.
use mathlib.Core.List.{zip_with}
use lib.Bits.{bit_xor}
use Rattle.packed.specs.Packed.{bits512}
use Rattle.packed.proofs.Stores.{Stored}
use Rattle.packed.proofs.xor.Given as goal

abbrev pub invariant-loop-i : goal.invariant-loop-i
invariant-loop-i l = Stored (zip_with bit_xor (bits512 l.v) (bits512 l.w)) l.out l.i
