-- The contracts of the scrambler leave one result: a machine word is told by its digits, and bytes that are written by their bits.
-- Assumes nothing.
use mathlib.Core.Path.{◌≡◌}
use mathlib.Core.List.{List}
use Prim.Native.Nat.{ℕ, ◌^◌, ◌<◌}
use Rattle.bits.specs.Words.{digits}
use Rattle.bits.specs.Bytes.{Bytes, bits_of}
use Rattle.bits.proofs.Numbers.{digits_inj}
use Rattle.bits.proofs.Octets.{bits_of_inj}
use Rattle.payload.specs.declared.scrambler.Scrambled.{Scrambled}

pub scrambled_once : (a b : Scrambled) → a.bits < 2 ^ 64 → b.bits < 2 ^ 64 → digits 64 a.bits ≡ digits 64 b.bits → a.register ≡ b.register → a ≡ b
scrambled_once a b ha hb e er = λ i. record { bits = digits_inj 64 a.bits b.bits ha hb e i; register = er i }

pub written_once : (v w : List ℕ) → Bytes v → Bytes w → bits_of v ≡ bits_of w → v ≡ w
written_once = bits_of_inj
