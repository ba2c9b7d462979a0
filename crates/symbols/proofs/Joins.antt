-- Digits put behind the first ones of a machine word by an or, and those of them for which it has no room.
-- Assumes nothing.
use mathlib.Core.Path.{◌≡◌, refl, sym, ap, ap₂, ◌∙◌}
use mathlib.Core.List.{List, [], ◌∷◌, ◌++◌, zip_with}
use Prim.Native.Nat.{ℕ, zero, suc, ◌+◌, ◌-◌, ◌*◌, ◌/◌, ◌%◌, ◌^◌, ◌≤◌, ◌<◌}
use native.Mathlib.Nat.{div-eq_of_lt}
use native.Mathlib.Omega.{arith}
use lib.Bits.{bit_or, or_shr, or_mod, or_zero_l, or_zero_r}
use lib.ListN.{length, take, drop, replicate, take-append-drop}
use lib.Pow.{shr-shr}
use lib.Seq.{take_at, drop_at, length-take-le}
use Rattle.bits.specs.Words.{digits}
use Rattle.bits.proofs.Digits.{length_digits}
use Rattle.bits.proofs.Shifts.{digits-zero, digits_append, digits_shl}
use Rattle.packed.proofs.Amid.{zeros}

-- ---- digit by digit

digit_or : (r x y : ℕ) → bit_or x y / 2 ^ r % 2 ≡ bit_or (x / 2 ^ r % 2) (y / 2 ^ r % 2)
digit_or r x y = ap (λ (z : ℕ). z % 2) (or_shr x y r) ∙ or_mod (x / 2 ^ r) (y / 2 ^ r) 1

digits_either : (r x y : ℕ) → digits r (bit_or x y) ≡ zip_with bit_or (digits r x) (digits r y)
unfolding digits zip_with
digits_either zero x y = refl
digits_either (suc r) x y = rw (digit_or r x y, digits_either r x y)

zeros_before : (v : List ℕ) → zip_with bit_or (zeros (length v)) v ≡ v
unfolding zip_with
zeros_before [] = refl
zeros_before (b ∷ v) = ap₂ ◌∷◌ (or_zero_l b) (zeros_before v)

-- zeros behind one, and before the other
side_by_side : (u v : List ℕ) → zip_with bit_or (u ++ zeros (length v)) (zeros (length u) ++ v) ≡ u ++ v
unfolding zip_with
side_by_side [] v = zeros_before v
side_by_side (b ∷ u) v = ap₂ ◌∷◌ (or_zero_r b) (side_by_side u v)

-- ---- a machine word moved by f places

module _ (f x : ℕ) (h : f ≤ 64) where
  halves : digits 64 x ≡ digits (64 - f) (x / 2 ^ f) ++ digits f x
  halves = let e : 64 ≡ 64 - f + f = omega arith in ap (λ (n : ℕ). digits n x) e ∙ digits_append (64 - f) f x

  first_digits : take (64 - f) (digits 64 x) ≡ digits (64 - f) (x / 2 ^ f)
  first_digits = ap (take (64 - f)) halves ∙ take_at (digits (64 - f) (x / 2 ^ f)) (digits f x) (64 - f) (length_digits (64 - f) (x / 2 ^ f))

  last_digits : drop (64 - f) (digits 64 x) ≡ digits f x
  last_digits = ap (drop (64 - f)) halves ∙ drop_at (digits (64 - f) (x / 2 ^ f)) (digits f x) (64 - f) (length_digits (64 - f) (x / 2 ^ f))

  -- down, zeros come before the digits that are left
  digits_shr : x < 2 ^ 64 → digits 64 (x / 2 ^ f) ≡ zeros f ++ take (64 - f) (digits 64 x)
  digits_shr low =
      let e : 64 ≡ f + (64 - f) = omega arith in
      let none : x / 2 ^ f / 2 ^ (64 - f) ≡ 0 = shr-shr x f (64 - f) ∙ ap (λ (n : ℕ). x / 2 ^ n) (sym e) ∙ div-eq_of_lt low in
      ap (λ (n : ℕ). digits n (x / 2 ^ f)) e ∙ digits_append f (64 - f) (x / 2 ^ f)
      ∙ ap₂ ◌++◌ (ap (digits f) none ∙ digits-zero f) (sym first_digits)

  -- up, the digits for which there was no room stand first
  pub digits_over : digits 64 (x * 2 ^ (64 - f) % 2 ^ 64) ≡ drop (64 - f) (digits 64 x) ++ replicate (64 - f) 0
  digits_over = digits_shl f (64 - f) x (omega arith) ∙ ap (λ (v : List ℕ). v ++ zeros (64 - f)) (sym last_digits)

-- behind the first f digits of top there are zeros: the digits of y are put there, as many as there is room for
pub digits_put : (top y f : ℕ) → f ≤ 64 → y < 2 ^ 64 → drop f (digits 64 top) ≡ replicate (64 - f) 0
    → digits 64 (bit_or top (y / 2 ^ f)) ≡ take f (digits 64 top) ++ take (64 - f) (digits 64 y)
digits_put top y f h low blank =
    let u = take f (digits 64 top) in
    let v = take (64 - f) (digits 64 y) in
    let lu : length u ≡ f = length-take-le f (digits 64 top) (omega (arith, length_digits 64 top)) in
    let lv : length v ≡ 64 - f = length-take-le (64 - f) (digits 64 y) (omega (arith, length_digits 64 y)) in
    digits_either 64 top (y / 2 ^ f)
    ∙ ap₂ (zip_with bit_or) (sym (take-append-drop f (digits 64 top)) ∙ ap (λ (l : List ℕ). u ++ l) (blank ∙ ap zeros (sym lv)))
    (digits_shr f y h low ∙ ap (λ (n : ℕ). zeros n ++ v) (sym lu))
    ∙ side_by_side u v
