-- `payload::scrambler::add_eight` meets its contract: digit after digit.
-- Assumes nothing.
use Rattle.std.proofs.Common.{◌≡◌}
use mathlib.Core.List.{zip_with}
use lib.Bits.{bit_xor}
use Rattle.bits.specs.Words.{digits}
use Rattle.payload.proofs.Turns.{adding}
use Rattle.payload.proofs.scrambler.add_eight.Given as goal

abbrev pub invariant-loop-i : goal.invariant-loop-i
invariant-loop-i l = adding (digits 8 l.key) l.bits l.i ≡ zip_with bit_xor l.initial.bits (digits 8 l.key)
