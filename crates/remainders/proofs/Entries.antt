-- Remainders of eight and of sixteen digits, added up from a table's entries.
-- Assumes nothing.
use mathlib.Core.Path.{◌≡◌, sym, ap, ap₂, ◌∙◌}
use mathlib.Core.List.{List, ◌++◌}
use Prim.Native.Nat.{ℕ, ◌+◌, ◌*◌, ◌/◌, ◌%◌, ◌^◌, ◌<◌}
use native.Mathlib.Omega.{arith}
use lib.Bits.{bit_xor}
use lib.ListN.{replicate}
use Rattle.bits.specs.Words.{digits}
use Rattle.bits.specs.Remainders.{remainder}
use Rattle.bch.specs.Registers.{entry_at, Remainders}
use Rattle.remainders.specs.Taking.{eight_by, sixteen_by}
use Rattle.remainders.proofs.Fours.{digits_apart, four_apart, eight_before, four_last}

module _ (g : ℕ) (table : List ℕ) (rule : Remainders g table) where
  at : (j i : ℕ) → i < 16 → j < 4 → entry_at table (16 * j + i) ≡ remainder 192 g (digits 4 i ++ replicate (4 * j) 0)
  at j i h l =
      let a : (16 * j + i) % 16 ≡ i = omega arith in
      let b : (16 * j + i) / 16 ≡ j = omega arith in
      rule.at (16 * j + i) (omega arith) ∙ ap₂ (λ (x y : ℕ). remainder 192 g (digits 4 x ++ replicate (4 * y) 0)) a b

  last : (z : ℕ) → entry_at table (z % 16) ≡ remainder 192 g (digits 4 z)
  last z =
      let s : 16 * 0 + z % 16 ≡ z % 16 = omega arith in
      ap (entry_at table) (sym s) ∙ at 0 (z % 16) (omega arith) (omega arith) ∙ sym (four_last 192 g z)

  pub eight_entries : (z : ℕ) → z < 256 → eight_by table z ≡ remainder 192 g (digits 8 z)
  unfolding eight_by
  eight_entries z h =
      let s : z / 16 ≡ z / 2 ^ 4 % 16 = omega arith in
      ap₂ bit_xor (ap (λ (i : ℕ). entry_at table (16 + i)) s ∙ at 1 (z / 2 ^ 4 % 16) (omega arith) (omega arith)) (last z)
      ∙ sym (four_apart 192 g 4 z)

  pub sixteen_entries : (z : ℕ) → z < 65536 → sixteen_by table z ≡ remainder 192 g (digits 16 z)
  unfolding sixteen_by
  sixteen_entries z h =
      let y = z / 2 ^ 8 in
      let s : z / 4096 ≡ y / 2 ^ 4 % 16 = omega arith in
      let a = ap (λ (i : ℕ). entry_at table (48 + i)) s ∙ at 3 (y / 2 ^ 4 % 16) (omega arith) (omega arith) in
      let b = at 2 (y % 16) (omega arith) (omega arith) in
      let d = at 1 (z / 2 ^ 4 % 16) (omega arith) (omega arith) in
      ap₂ bit_xor (ap₂ bit_xor a b ∙ sym (eight_before 192 g y)) (ap₂ bit_xor d (last z) ∙ sym (four_apart 192 g 4 z)) ∙ sym (digits_apart 192 g 8 8 z)
