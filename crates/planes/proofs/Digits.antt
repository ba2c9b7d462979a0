-- Bits of machine words, in each lane: how they go with `^` and `&`, and what a digit adds to an element.
-- Assumes nothing.
use mathlib.Core.Path.{◌≡◌, refl, sym, ap, ◌∙◌}
use Prim.Native.Nat.{ℕ, ◌+◌, ◌*◌, ◌/◌, ◌%◌, ◌^◌, ◌<◌}
use native.Mathlib.Nat.{mod-lt, mod-eq_of_lt, div-eq_of_lt}
use native.Mathlib.Omega.{arith}
use lib.Bits.{bit_xor, bit_and, xor_shr, xor_mod, and_shr, and_mod, and_self, xor_shifted}
use lib.Dec.{lit<}
use Rattle.algebra.proofs.Fields.{ring, mul-one}
use Rattle.algebra.proofs.Powers.{pow-zero, pow-suc}
use Rattle.ground.proofs.Xors.{by_digit}
use Rattle.field.specs.Field.{shifted, power}
use Rattle.field.proofs.Products.{a_product}
use Rattle.field.proofs.Elements.{gf512, element_of, of_0, of_1, of_xor, of_product}
use Rattle.field.proofs.Values.{a, of_power}
use Rattle.planes.specs.Lanes.{bit_of, lane_bit}
open gf512 use {Element, add as ◌⊕◌, mul as ◌⊗◌}

infixl 60 ◌⊕◌
infixl 70 ◌⊗◌
-- ---- one bit of a machine word

pub bit_lt : (x l : ℕ) → bit_of x l < 2
unfolding bit_of
bit_lt x l = mod-lt (x / 2 ^ l) (lit< tt)

-- a bit is 0 or 1
pub by_bit : (P : ℕ → Type 0) → P 0 → P 1 → (x l : ℕ) → P (bit_of x l)
unfolding bit_of
by_bit P p q x l = by_digit P p q (x / 2 ^ l)

pub bit_xor_lem : (x y l : ℕ) → bit_of (bit_xor x y) l ≡ bit_xor (bit_of x l) (bit_of y l)
unfolding bit_of
bit_xor_lem x y l = ap (λ (n : ℕ). n % 2) (xor_shr x y l) ∙ xor_mod (x / 2 ^ l) (y / 2 ^ l) 1

bit_and_lem : (x y l : ℕ) → bit_of (bit_and x y) l ≡ bit_and (bit_of x l) (bit_of y l)
unfolding bit_of
bit_and_lem x y l = ap (λ (n : ℕ). n % 2) (and_shr x y l) ∙ and_mod (x / 2 ^ l) (y / 2 ^ l) 1

-- ---- a machine word as an element of each lane, 0 or 1

pub lane_xor : (x y l : ℕ) → lane_bit (bit_xor x y) l ≡ lane_bit x l ⊕ lane_bit y l
unfolding lane_bit
lane_xor x y l = ap element_of (bit_xor_lem x y l) ∙ of_xor _ _

and_digits : (x y l : ℕ) → element_of (bit_and (bit_of x l) (bit_of y l)) ≡ element_of (bit_of y l) ⊗ element_of (bit_of x l)
and_digits x y l =
    by_bit (λ (m : ℕ). element_of (bit_and m (bit_of y l)) ≡ element_of (bit_of y l) ⊗ element_of m) (simp (of_0, ring))
    (by_bit (λ (n : ℕ). element_of (bit_and 1 n) ≡ element_of n ⊗ element_of 1) (simp (of_0, ring)) (simp (of_1, ring)) y l) x l

pub lane_and : (x y l : ℕ) → lane_bit (bit_and x y) l ≡ lane_bit y l ⊗ lane_bit x l
unfolding lane_bit
lane_and x y l = ap element_of (bit_and_lem x y l) ∙ and_digits x y l

pub lane_square : (y l : ℕ) → lane_bit y l ⊗ lane_bit y l ≡ lane_bit y l
lane_square y l = sym (lane_and y y l) ∙ ap (λ (u : ℕ). lane_bit u l) (and_self y)

-- ---- one digit more below a number

doubled : (n : ℕ) → n < 256 → shifted n ≡ n * 2
unfolding shifted
doubled n h = rw (div-eq_of_lt {n = n} h) (mod-eq_of_lt (omega arith))

power_1 : power 1 ≡ 2
unfolding power shifted
power_1 = refl

of_2 : element_of 2 ≡ a
of_2 = ap element_of (sym power_1) ∙ of_power 1 ∙ rw (pow-suc, pow-zero) (mul-one gf512 a)

of_double : (n : ℕ) → n < 256 → element_of (n * 2) ≡ a ⊗ element_of n
of_double n h = ap element_of (sym (doubled n h) ∙ sym (a_product n (omega arith))) ∙ of_product 2 n ∙ ap (λ u. u ⊗ element_of n) of_2

pub of_digit : (d n : ℕ) → d < 2 → n < 256 → element_of (d + 2 * n) ≡ element_of d ⊕ a ⊗ element_of n
of_digit d n k h =
    let s : d + 2 * n ≡ n * 2 + d = omega arith in
    ap element_of (s ∙ sym (xor_shifted n 1 d k)) ∙ of_xor (n * 2) d ∙ gf512.add_comm _ _ ∙ ap (gf512.add (element_of d)) (of_double n h)
