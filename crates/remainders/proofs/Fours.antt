-- Four digits before others, and their remainders.
-- Assumes nothing.
use mathlib.Core.Path.{◌≡◌, sym, ap, ap₂, ◌∙◌}
use mathlib.Core.List.{List, ◌++◌, append_assoc, append-nil}
use Prim.Native.Nat.{ℕ, ◌+◌, ◌/◌, ◌%◌, ◌^◌}
use native.Mathlib.Nat.{le_refl}
use lib.Bits.{bit_xor}
use lib.ListN.{length, replicate, length-append, length-replicate}
use Rattle.bits.specs.Words.{digits}
use Rattle.bits.specs.Remainders.{remainder}
use Rattle.bits.proofs.Digits.{length_digits}
use Rattle.bits.proofs.Shifts.{digits-mod-pow, digits_append}
use Rattle.bits.proofs.Falling.{apart}

module _ (r g : ℕ) where
  -- m digits of z before k others
  pub digits_apart : (m k z : ℕ) → remainder r g (digits (m + k) z)
      ≡ bit_xor (remainder r g (digits m (z / 2 ^ k) ++ replicate k 0)) (remainder r g (digits k z))
  digits_apart m k z =
      let v = digits m (z / 2 ^ k) in
      let w = digits k z in
      ap (remainder r g) (digits_append m k z) ∙ apart r g v w
      ∙ ap (λ (n : ℕ). bit_xor (remainder r g (v ++ replicate n 0)) (remainder r g w)) (length_digits k z)

  -- four digits count modulo 16
  four_mod : (z : ℕ) (w : List ℕ) → remainder r g (digits 4 z ++ w) ≡ remainder r g (digits 4 (z % 16) ++ w)
  four_mod z w = ap (λ (v : List ℕ). remainder r g (v ++ w)) (sym (digits-mod-pow 4 4 z (le_refl 4)))

  pub four_apart : (k z : ℕ) → remainder r g (digits (4 + k) z)
      ≡ bit_xor (remainder r g (digits 4 (z / 2 ^ k % 16) ++ replicate k 0)) (remainder r g (digits k z))
  four_apart k z = digits_apart 4 k z ∙ ap (λ (x : ℕ). bit_xor x (remainder r g (digits k z))) (four_mod (z / 2 ^ k) (replicate k 0))

  -- two times four digits before eight zeros
  pub eight_before : (z : ℕ) → remainder r g (digits 8 z ++ replicate 8 0)
      ≡ bit_xor (remainder r g (digits 4 (z / 2 ^ 4 % 16) ++ replicate 12 0)) (remainder r g (digits 4 (z % 16) ++ replicate 8 0))
  eight_before z =
      let v = digits 4 (z / 2 ^ 4) in
      let none : List ℕ = replicate 8 0 in
      let w = digits 4 z ++ none in
      let l : length w ≡ 12 = length-append (digits 4 z) none ∙ ap₂ ◌+◌ (length_digits 4 z) (length-replicate {A = ℕ} 8 0) in
      ap (remainder r g) (ap (λ (u : List ℕ). u ++ none) (digits_append 4 4 z) ∙ append_assoc v (digits 4 z) none) ∙ apart r g v w
      ∙ ap₂ bit_xor (ap (λ (n : ℕ). remainder r g (v ++ replicate n 0)) l ∙ four_mod (z / 2 ^ 4) (replicate 12 0)) (four_mod z none)

  pub four_last : (z : ℕ) → remainder r g (digits 4 z) ≡ remainder r g (digits 4 (z % 16) ++ replicate 0 0)
  four_last z = ap (remainder r g) (sym (digits-mod-pow 4 4 z (le_refl 4)) ∙ sym (append-nil (digits 4 (z % 16))))
