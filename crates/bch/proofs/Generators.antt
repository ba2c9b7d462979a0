-- The three generators: they are those of equations (1) to (3) of the standard, and each has the roots a, a^2, .., a^2t.
-- The values at odd powers are computed. Over bits the value at a square is the square of the value, so the even powers follow.
-- Assumes nothing.
use mathlib.Core.Path.{◌≡◌, refl, sym, ap, ◌∙◌}
use mathlib.Core.Bool.{Bool}
use mathlib.Core.List.{List, [], ◌∷◌}
use Prim.Native.Nat.{ℕ, zero, suc, ◌+◌, ◌*◌, ◌/◌, ◌%◌, ◌^◌, ◌≤◌, ◌<◌}
use native.Mathlib.Omega.{arith}
use lib.Arith.{bin_ind}
use lib.Dec.{T, eqb, eqb→eq, lit<, lit≤}
use Rattle.ground.proofs.Tests.{all, all_at}
use Rattle.ground.proofs.Xors.{by_digit}
use Rattle.algebra.proofs.Fields.{ring, mul-zero}
use Rattle.algebra.proofs.Powers.{pow, pow-add, pow_square}
use Rattle.field.specs.Field.{sum, product, power, times, shifted}
use Rattle.field.proofs.Elements.{gf512, element_of, of_0, of_1, of_sum, of_product}
use Rattle.field.proofs.Values.{a, value, value_from, value-nil, value-cons, of_power}
use Rattle.bits.specs.Words.{Bits, digits}
use Rattle.bch.specs.Codes.{code1, code2, code3}
use Rattle.bch.specs.Held.{Rooted}
use Rattle.bits.proofs.Digits.{digits_bits}
open gf512 use {Element, zero as 𝟘, add as ◌⊕◌, mul as ◌⊗◌}

infixl 60 ◌⊕◌
infixl 70 ◌⊗◌
-- ---- the equations of the standard

-- the sum of the powers of x with these exponents
abbrev pub polynomial : List ℕ → ℕ
polynomial [] = 0
polynomial (e ∷ es) = 2 ^ e + polynomial es

pub equation1 : code1.generator ≡ polynomial (
    36 ∷ 35 ∷ 34 ∷ 31 ∷ 30 ∷ 25 ∷ 23 ∷ 21 ∷ 20 ∷ 19 ∷ 16 ∷ 15 ∷ 11 ∷ 8 ∷ 7 ∷ 5 ∷ 0 ∷ [])
equation1 = refl

pub equation2 : code2.generator ≡ polynomial (
    72 ∷ 71 ∷ 69 ∷ 68 ∷ 67 ∷ 63 ∷ 61 ∷ 60 ∷ 59 ∷ 57 ∷ 50 ∷ 49 ∷ 47 ∷ 44 ∷ 43 ∷ 41 ∷ 40 ∷ 39 ∷ 35 ∷ 33 ∷ 32 ∷
    28 ∷ 27 ∷ 26 ∷ 25 ∷ 24 ∷ 23 ∷ 22 ∷ 21 ∷ 20 ∷ 19 ∷ 18 ∷ 17 ∷ 13 ∷ 10 ∷ 9 ∷ 7 ∷ 6 ∷ 5 ∷ 2 ∷ 0 ∷ [])
equation2 = refl

pub equation3 : code3.generator ≡ polynomial (
    144 ∷ 141 ∷ 139 ∷ 137 ∷ 136 ∷ 134 ∷ 133 ∷ 131 ∷ 129 ∷ 128 ∷ 127 ∷ 126 ∷ 124 ∷ 118 ∷ 116 ∷ 114 ∷ 110 ∷ 108 ∷
    107 ∷ 106 ∷ 104 ∷ 103 ∷ 101 ∷ 100 ∷ 97 ∷ 96 ∷ 94 ∷ 91 ∷ 90 ∷ 84 ∷ 83 ∷ 82 ∷ 81 ∷ 72 ∷ 71 ∷ 70 ∷
    68 ∷ 66 ∷ 64 ∷ 61 ∷ 59 ∷ 56 ∷ 54 ∷ 53 ∷ 51 ∷ 50 ∷ 49 ∷ 46 ∷ 44 ∷ 43 ∷ 39 ∷ 38 ∷ 35 ∷ 31 ∷
    30 ∷ 29 ∷ 27 ∷ 26 ∷ 24 ∷ 21 ∷ 18 ∷ 17 ∷ 16 ∷ 8 ∷ 7 ∷ 5 ∷ 3 ∷ 2 ∷ 0 ∷ [])
equation3 = refl

-- ---- values at squares

pub value_square : (x : Element) (bs : List ℕ) → Bits bs → value (x ⊗ x) bs ≡ value x bs ⊗ value x bs
value_square x [] h = simp (value-nil, ring)
value_square x (zero ∷ bs) h = simp (value-cons, of_0, value_square x bs h.1, ring)
value_square x (suc zero ∷ bs) h = simp (value-cons, of_1, value_square x bs h.1, pow_square, ring)
value_square x (suc (suc b) ∷ bs) h = let l = h.0 in absurd (omega arith)

-- ---- values by computation

-- Horner's rule on numbers
unfoldable pub horner_from : ℕ → ℕ → List ℕ → ℕ
horner_from v x [] = v
horner_from v x (b ∷ bs) = horner_from (sum (product v x) b) x bs

pub of_horner : (v x : ℕ) (bs : List ℕ) → element_of (horner_from v x bs) ≡ value_from (element_of v) (element_of x) bs
unfolding horner_from value_from
of_horner v x [] = refl
of_horner v x (b ∷ bs) = of_horner (sum (product v x) b) x bs ∙ rw (of_sum, of_product)

-- the polynomial g of degree r has the roots a, a^3, .., a^(2t-1)
abbrev odds : ℕ → ℕ → ℕ → Bool
odds t r g = all t (λ j. eqb (horner_from 0 (power (j * 2 + 1)) (digits (suc r) g)) 0)

module _ (t r g : ℕ) (test : T (odds t r g)) where
  odd : (j : ℕ) → j < t → value (pow gf512 a (j * 2 + 1)) (digits (suc r) g) ≡ 𝟘
  unfolding value
  odd j h =
      let z : horner_from 0 (power (j * 2 + 1)) (digits (suc r) g) ≡ 0 = eqb→eq _ 0 (all_at t _ test j h) in
      rw (← of_power, ← of_0) (sym (of_horner 0 _ _) ∙ ap element_of z)

  even : (i : ℕ) → value (pow gf512 a i) (digits (suc r) g) ≡ 𝟘 → value (pow gf512 a (i + i)) (digits (suc r) g) ≡ 𝟘
  even i e = rw (pow-add, value_square (pow gf512 a i) _ (digits_bits (suc r) g), e) (mul-zero gf512 𝟘)

  all_roots : (j : ℕ) → 0 < j → j ≤ t * 2 → value (pow gf512 a j) (digits (suc r) g) ≡ 𝟘
  all_roots =
      bin_ind (λ (j : ℕ). 0 < j → j ≤ t * 2 → value (pow gf512 a j) (digits (suc r) g) ≡ 𝟘) (λ p h. absurd (omega arith))
      (λ j ih p h. by_digit (λ (d : ℕ). j % 2 ≡ d → value (pow gf512 a j) (digits (suc r) g) ≡ 𝟘)
      (λ e. (let s : j ≡ j / 2 + j / 2 = omega arith in rw s (even (j / 2) (ih (omega arith) (omega arith)))))
      (λ e. (let s : j ≡ j / 2 * 2 + 1 = omega arith in rw s (odd (j / 2) (omega arith))))
      j refl)

test1 : T (odds 4 36 code1.generator)
unfolding horner_from digits sum product times shifted power
test1 = tt

test2 : T (odds 8 72 code2.generator)
unfolding horner_from digits sum product times shifted power
test2 = tt

test3 : T (odds 16 144 code3.generator)
unfolding horner_from digits sum product times shifted power
test3 = tt

pub rooted1 : Rooted code1
rooted1 = record { order = lit< tt; places = lit≤ tt; degree = refl; roots = all_roots 4 36 code1.generator test1 }

pub rooted2 : Rooted code2
rooted2 = record { order = lit< tt; places = lit≤ tt; degree = refl; roots = all_roots 8 72 code2.generator test2 }

pub rooted3 : Rooted code3
rooted3 = record { order = lit< tt; places = lit≤ tt; degree = refl; roots = all_roots 16 144 code3.generator test3 }
