-- An element by its nine digits, e0 + a e1 + a^2 e2 and so on: what `^` and `&` of planes do to the elements of a lane.
-- Assumes nothing.
use mathlib.Core.Path.{◌≡◌, refl, sym, ap, ap₂, ◌∙◌}
use mathlib.Core.List.{List, [], ◌∷◌, map, zip_with}
use Prim.Native.Nat.{ℕ, ◌<◌}
use native.Mathlib.Omega.{arith}
use lib.Bits.{bit_xor, bit_and}
use lib.ListN.{length}
use Rattle.algebra.proofs.Fields.{ring}
use Rattle.algebra.proofs.Powers.{pow}
use Rattle.field.specs.Field.{power, shifted}
use Rattle.field.proofs.Elements.{gf512, element_of, of_xor}
use Rattle.field.proofs.Values.{a, of_power}
use Rattle.planes.specs.Lanes.{nine, number_at, lane_of, lane_bit, Stepped, PlusWhere, OnlyWhere, Summed, TimesA, Multiplied}
use Rattle.planes.specs.declared.Planes.{Planes}
use Rattle.planes.proofs.Digits.{bit_lt, lane_xor, lane_and, of_digit}
open gf512 use {Element, zero as 𝟘, add as ◌⊕◌, mul as ◌⊗◌}

infixl 60 ◌⊕◌
infixl 70 ◌⊗◌
-- the element with these digits, the lowest first
unfoldable spell : List Element → Element
spell [] = 𝟘
spell (e ∷ es) = e ⊕ a ⊗ spell es

spell-nil : spell [] ≡ 𝟘
unfolding spell
spell-nil = refl

spell-cons : (e : Element) (es : List Element) → spell (e ∷ es) ≡ e ⊕ a ⊗ spell es
unfolding spell
spell-cons e es = refl

-- the digits of the element in lane l
abbrev digits_at : Planes → ℕ → List Element
digits_at p l =
    lane_bit p.p0 l ∷ lane_bit p.p1 l ∷ lane_bit p.p2 l ∷ lane_bit p.p3 l ∷ lane_bit p.p4 l ∷ lane_bit p.p5 l ∷ lane_bit p.p6 l
    ∷ lane_bit p.p7 l ∷ lane_bit p.p8 l ∷ []

last : (e : Element) → e ⊕ a ⊗ 𝟘 ≡ e
last e = simp ring

lane_spell : (p : Planes) (l : ℕ) → lane_of p l ≡ spell (digits_at p l)
unfolding lane_of number_at nine lane_bit spell
lane_spell p l =
    let b0 = bit_lt p.p0 l in
    let b1 = bit_lt p.p1 l in
    let b2 = bit_lt p.p2 l in
    let b3 = bit_lt p.p3 l in
    let b4 = bit_lt p.p4 l in
    let b5 = bit_lt p.p5 l in
    let b6 = bit_lt p.p6 l in
    let b7 = bit_lt p.p7 l in
    let b8 = bit_lt p.p8 l in
    of_digit _ _ b0 (omega arith)
    ∙ ap (under b0) (of_digit _ _ b1 (omega arith)
    ∙ ap (under b1) (of_digit _ _ b2 (omega arith)
    ∙ ap (under b2) (of_digit _ _ b3 (omega arith)
    ∙ ap (under b3) (of_digit _ _ b4 (omega arith)
    ∙ ap (under b4) (of_digit _ _ b5 (omega arith)
    ∙ ap (under b5) (of_digit _ _ b6 (omega arith)
    ∙ ap (under b6) (of_digit _ _ b7 (omega arith)
    ∙ ap (under b7) (sym (last _)))))))))
  where
    under : {x : ℕ} → x < 2 → Element → Element
    under {x} h u = element_of x ⊕ a ⊗ u

-- ---- sums and multiples, digit by digit

sum_step : (e f u v : Element) → e ⊕ f ⊕ a ⊗ (u ⊕ v) ≡ e ⊕ a ⊗ u ⊕ (f ⊕ a ⊗ v)
sum_step e f u v = simp ring

spell_sum : (es fs : List Element) → length es ≡ length fs → spell (zip_with gf512.add es fs) ≡ spell es ⊕ spell fs
unfolding spell zip_with
spell_sum [] [] h = simp ring
spell_sum [] (f ∷ fs) h = absurd (omega arith)
spell_sum (e ∷ es) [] h = absurd (omega arith)
spell_sum (e ∷ es) (f ∷ fs) h =
    ap (λ u. e ⊕ f ⊕ a ⊗ u) (spell_sum es fs (omega arith)) ∙ sum_step e f (spell es) (spell fs)

scale_step : (y f u : Element) → y ⊗ f ⊕ a ⊗ (y ⊗ u) ≡ y ⊗ (f ⊕ a ⊗ u)
scale_step y f u = simp ring

spell_scaled : (y : Element) (fs : List Element) → spell (map (gf512.mul y) fs) ≡ y ⊗ spell fs
unfolding spell
spell_scaled y [] = simp ring
spell_scaled y (f ∷ fs) = ap (λ u. y ⊗ f ⊕ a ⊗ u) (spell_scaled y fs) ∙ scale_step y f (spell fs)

-- es, and fs times y
spell_plus : (y : Element) (es fs : List Element) → length es ≡ length (map (gf512.mul y) fs)
    → spell (zip_with gf512.add es (map (gf512.mul y) fs)) ≡ spell es ⊕ y ⊗ spell fs
spell_plus y es fs h = spell_sum es (map (gf512.mul y) fs) h ∙ ap (gf512.add (spell es)) (spell_scaled y fs)

-- ---- a times an element

-- a^9 is a^4 + 1
computed : power 9 ≡ bit_xor (power 4) (power 0)
unfolding power shifted
computed = refl

ninth : pow gf512 a 9 ≡ pow gf512 a 4 ⊕ pow gf512 a 0
ninth = sym (of_power 9) ∙ ap element_of computed ∙ of_xor _ _ ∙ ap₂ gf512.add (of_power 4) (of_power 0)

ninth_of : (e : Element) → a ⊗ (a ⊗ (a ⊗ (a ⊗ (a ⊗ (a ⊗ (a ⊗ (a ⊗ (a ⊗ e)))))))) ≡ e ⊕ a ⊗ (a ⊗ (a ⊗ (a ⊗ e)))
unfolding pow
ninth_of e = simp ring at (ap (λ u. u ⊗ e) ninth)

-- the digits move up by one; the highest comes in below, and is added to the fifth
spell_times_a : (e0 e1 e2 e3 e4 e5 e6 e7 e8 : Element)
    → spell (e8 ∷ e0 ∷ e1 ∷ e2 ∷ (e3 ⊕ e8) ∷ e4 ∷ e5 ∷ e6 ∷ e7 ∷ []) ≡ a ⊗ spell (e0 ∷ e1 ∷ e2 ∷ e3 ∷ e4 ∷ e5 ∷ e6 ∷ e7 ∷ e8 ∷ [])
spell_times_a e0 e1 e2 e3 e4 e5 e6 e7 e8 = simp (spell-nil, spell-cons, ninth_of, ring)

-- ---- planes

pub sum_law : (v x : Planes) → Summed v x (record {
  p0 = bit_xor v.p0 x.p0;
  p1 = bit_xor v.p1 x.p1;
  p2 = bit_xor v.p2 x.p2;
  p3 = bit_xor v.p3 x.p3;
  p4 = bit_xor v.p4 x.p4;
  p5 = bit_xor v.p5 x.p5;
  p6 = bit_xor v.p6 x.p6;
  p7 = bit_xor v.p7 x.p7;
  p8 = bit_xor v.p8 x.p8;
})
unfolding Summed zip_with
sum_law v x l =
    lane_spell _ l
    ∙ simp lane_xor (spell_sum (digits_at v l) (digits_at x l) refl ∙ ap₂ gf512.add (sym (lane_spell v l)) (sym (lane_spell x l)))

pub only_law : (x : Planes) (y : ℕ) → OnlyWhere x y (record {
  p0 = bit_and x.p0 y;
  p1 = bit_and x.p1 y;
  p2 = bit_and x.p2 y;
  p3 = bit_and x.p3 y;
  p4 = bit_and x.p4 y;
  p5 = bit_and x.p5 y;
  p6 = bit_and x.p6 y;
  p7 = bit_and x.p7 y;
  p8 = bit_and x.p8 y;
})
unfolding OnlyWhere
only_law x y l =
    lane_spell _ l
    ∙ simp lane_and (spell_scaled (lane_bit y l) (digits_at x l) ∙ ap (gf512.mul (lane_bit y l)) (sym (lane_spell x l)))

pub plus_law : (v x : Planes) (y : ℕ) → PlusWhere v x y (record {
  p0 = bit_xor v.p0 (bit_and x.p0 y);
  p1 = bit_xor v.p1 (bit_and x.p1 y);
  p2 = bit_xor v.p2 (bit_and x.p2 y);
  p3 = bit_xor v.p3 (bit_and x.p3 y);
  p4 = bit_xor v.p4 (bit_and x.p4 y);
  p5 = bit_xor v.p5 (bit_and x.p5 y);
  p6 = bit_xor v.p6 (bit_and x.p6 y);
  p7 = bit_xor v.p7 (bit_and x.p7 y);
  p8 = bit_xor v.p8 (bit_and x.p8 y);
})
unfolding PlusWhere zip_with
plus_law v x y l =
    lane_spell _ l
    ∙ simp (lane_xor, lane_and)
    (spell_plus (lane_bit y l) (digits_at v l) (digits_at x l) refl
    ∙ ap₂ (λ s t. s ⊕ lane_bit y l ⊗ t) (sym (lane_spell v l)) (sym (lane_spell x l)))

pub times_a_law : (v : Planes) → TimesA v (record {
  p0 = v.p8;
  p1 = v.p0;
  p2 = v.p1;
  p3 = v.p2;
  p4 = bit_xor v.p3 v.p8;
  p5 = v.p4;
  p6 = v.p5;
  p7 = v.p6;
  p8 = v.p7;
})
unfolding TimesA
times_a_law v l =
    lane_spell _ l ∙ simp lane_xor (spell_times_a _ _ _ _ _ _ _ _ _ ∙ ap (gf512.mul a) (sym (lane_spell v l)))

pub next_law : (v x : Planes) (y : ℕ) → Stepped v x y (record {
  p0 = bit_xor v.p8 (bit_and x.p0 y);
  p1 = bit_xor v.p0 (bit_and x.p1 y);
  p2 = bit_xor v.p1 (bit_and x.p2 y);
  p3 = bit_xor v.p2 (bit_and x.p3 y);
  p4 = bit_xor (bit_xor v.p3 v.p8) (bit_and x.p4 y);
  p5 = bit_xor v.p4 (bit_and x.p5 y);
  p6 = bit_xor v.p5 (bit_and x.p6 y);
  p7 = bit_xor v.p6 (bit_and x.p7 y);
  p8 = bit_xor v.p7 (bit_and x.p8 y);
})
unfolding Stepped TimesA PlusWhere
next_law v x y l = plus_law _ x y l ∙ ap (λ u. u ⊕ lane_bit y l ⊗ lane_of x l) (times_a_law v l)

-- ---- the product: the digits of y, the highest first

product_first : (x y : Element) → y ⊗ x ≡ x ⊗ (y ⊕ a ⊗ 𝟘)
product_first x y = simp ring

-- u is x times the digits before; y is the next
product_next : (x u w y : Element) → u ≡ x ⊗ w → a ⊗ u ⊕ y ⊗ x ≡ x ⊗ (y ⊕ a ⊗ w)
product_next x u w y h = rw h (simp ring)

pub product_law : (x y v8 v7 v6 v5 v4 v3 v2 v1 r : Planes) → OnlyWhere x y.p8 v8 → Stepped v8 x y.p7 v7 → Stepped v7 x y.p6 v6
    → Stepped v6 x y.p5 v5 → Stepped v5 x y.p4 v4 → Stepped v4 x y.p3 v3 → Stepped v3 x y.p2 v2 → Stepped v2 x y.p1 v1
    → Stepped v1 x y.p0 r → Multiplied x y r
unfolding OnlyWhere Stepped Multiplied spell
product_law x y v8 v7 v6 v5 v4 v3 v2 v1 r h8 h7 h6 h5 h4 h3 h2 h1 h0 l =
    let X = lane_of x l in
    let s8 = h8 l ∙ product_first X _ in
    let s7 = h7 l ∙ product_next X _ _ _ s8 in
    let s6 = h6 l ∙ product_next X _ _ _ s7 in
    let s5 = h5 l ∙ product_next X _ _ _ s6 in
    let s4 = h4 l ∙ product_next X _ _ _ s5 in
    let s3 = h3 l ∙ product_next X _ _ _ s4 in
    let s2 = h2 l ∙ product_next X _ _ _ s3 in
    let s1 = h1 l ∙ product_next X _ _ _ s2 in
    h0 l ∙ product_next X _ _ _ s1 ∙ ap (gf512.mul X) (sym (lane_spell y l))
