-- Series and polynomials over GF(512), as numbers hold them, and the powers of a.
-- Assumes nothing.
use mathlib.Core.Path.{◌≡◌, refl, sym, ap, ◌∙◌}
use mathlib.Core.Logic.{◌≢◌}
use mathlib.Core.List.{List, [], ◌∷◌, ◌++◌, zip_with}
use Prim.Native.Nat.{ℕ, zero, suc, ◌+◌, ◌-◌, ◌≤◌, ◌<◌}
use native.Mathlib.Nat.{mod-eq_of_lt, sub_self}
use native.Mathlib.Omega.{arith}
use lib.Bits.{bit_xor}
use lib.ListN.{length, get_or, length-append}
use Rattle.ground.proofs.Zips.{length-zip_with}
use Rattle.algebra.proofs.Fields.{ring, mul-one, one-mul, mul_comm, mul_assoc}
use Rattle.algebra.proofs.Sums.{sum, sum_nil, sum-suc, sum_cong}
use Rattle.algebra.proofs.Places.{Distinct}
use Rattle.algebra.proofs.Powers.{pow, pow-zero, pow-suc, pow-add, pow-ne-zero}
use Rattle.field.specs.Field.{power}
use Rattle.field.proofs.Powers.{power_0, power-suc, power_511, power-lt}
use Rattle.field.proofs.Logarithms.{power-ne}
use Rattle.field.proofs.Elements.{gf512, element_of, number, number_of, of_1, of_zero, of_product, of_xor}
open gf512 use {Element, zero as 𝟘, one as 𝟙, add as ◌⊕◌, mul as ◌⊗◌, inv}

infixl 60 ◌⊕◌
infixl 70 ◌⊗◌
-- the series whose first terms a list holds
unfoldable pub series : List ℕ → ℕ → gf512.Element
series l i = element_of (get_or l i 0)

-- Horner's rule, on coefficients that stand highest power first
unfoldable pub value_from : gf512.Element → gf512.Element → List ℕ → gf512.Element
value_from v x [] = v
value_from v x (b ∷ bs) = value_from (gf512.add (gf512.mul v x) (element_of b)) x bs

-- the value at x of the polynomial with these coefficients, highest power first
unfoldable pub value : gf512.Element → List ℕ → gf512.Element
value x bs = value_from gf512.zero x bs

-- a, the root of x^9 + x^4 + 1
pub a : gf512.Element
a = element_of 2

-- ---- the powers of a

pub of_inj : (x y : ℕ) → x < 512 → y < 512 → element_of x ≡ element_of y → x ≡ y
of_inj x y h k e = sym (mod-eq_of_lt h) ∙ sym (number_of x) ∙ ap number e ∙ number_of y ∙ mod-eq_of_lt k

pub of_power : (i : ℕ) → element_of (power i) ≡ pow gf512 a i
unfolding a
of_power zero = rw (power_0, pow-zero) of_1
of_power (suc i) = rw (power-suc, of_product, of_power i, pow-suc)

pub a_nonzero : a ≢ 𝟘
unfolding a
a_nonzero e = let z : ◌≡◌ {A = ℕ} 2 0 = of_zero 2 e in omega arith

-- no two of the powers below 511 are equal
pub a_differ : (n : ℕ) → n ≤ 511 → Distinct n (pow gf512 a)
a_differ n m i j l k e =
    power-ne i j l (omega arith) (of_inj (power i) (power j) (power-lt i) (power-lt j) (of_power i ∙ e ∙ sym (of_power j)))

inv_unique : (u v : Element) → u ≢ 𝟘 → u ⊗ v ≡ 𝟙 → inv u ≡ v
inv_unique u v z h =
    cc (gf512.mul-inv u z, mul-one gf512 (inv u), mul_comm gf512 u (inv u), mul_assoc gf512 (inv u) u v, one-mul gf512 v)

pub a_inverse : (p : ℕ) → p ≤ 511 → inv (pow gf512 a p) ≡ pow gf512 a (511 - p)
a_inverse p l =
    let s : p + (511 - p) ≡ 511 = omega arith in
    inv_unique (pow gf512 a p) _ (pow-ne-zero gf512 a p a_nonzero)
    (sym (pow-add gf512 a p (511 - p)) ∙ rw (s, ← of_power, power_511) of_1)

-- ---- values

pub value-nil : (x : Element) → value x [] ≡ 𝟘
unfolding value value_from
value-nil x = refl

-- what Horner's rule starts from counts as a coefficient before the others
pub value_from_start : (v x : Element) (bs : List ℕ) → value_from v x bs ≡ v ⊗ pow gf512 x (length bs) ⊕ value x bs
unfolding value value_from
value_from_start v x [] = simp (pow-zero, ring)
value_from_start v x (b ∷ bs) =
    rw (value_from_start (v ⊗ x ⊕ element_of b) x bs, value_from_start (𝟘 ⊗ x ⊕ element_of b) x bs, pow-suc) (simp ring)

pub value-cons : (x : Element) (b : ℕ) (bs : List ℕ) → value x (b ∷ bs) ≡ element_of b ⊗ pow gf512 x (length bs) ⊕ value x bs
unfolding value value_from
value-cons x b bs = value_from_start (𝟘 ⊗ x ⊕ element_of b) x bs ∙ simp ring

pub value-append : (x : Element) (bs cs : List ℕ) → value x (bs ++ cs) ≡ value x bs ⊗ pow gf512 x (length cs) ⊕ value x cs
value-append x [] cs = simp (value-nil, ring)
value-append x (b ∷ bs) cs = simp (value-cons, value-append x bs cs, length-append bs cs, pow-add, ring)

-- the coefficient of x^p stands p places before the last
unfoldable pub coefficient : List ℕ → ℕ → Element
coefficient bs p = element_of (get_or bs (length bs - suc p) 0)

pub coefficient_low : (b : ℕ) (bs : List ℕ) (p : ℕ) → p < length bs → coefficient (b ∷ bs) p ≡ coefficient bs p
unfolding coefficient
coefficient_low b bs p l = let e : suc (length bs) - suc p ≡ suc (length bs - suc p) = omega arith in rw e

pub coefficient_high : (b : ℕ) (bs : List ℕ) → coefficient (b ∷ bs) (length bs) ≡ element_of b
unfolding coefficient
coefficient_high b bs = rw sub_self

pub value-sum : (x : Element) (bs : List ℕ) → value x bs ≡ sum gf512 (length bs) (λ p. coefficient bs p ⊗ pow gf512 x p)
value-sum x [] = value-nil x ∙ sym (sum_nil gf512 _)
value-sum x (b ∷ bs) =
    rw (value-cons, value-sum x bs, ← low, sum-suc, coefficient_high b bs) (gf512.add_comm _ _)
  where
    low : sum gf512 (length bs) (λ p. coefficient (b ∷ bs) p ⊗ pow gf512 x p)
        ≡ sum gf512 (length bs) (λ p. coefficient bs p ⊗ pow gf512 x p)
    low = sum_cong gf512 (length bs) _ _ (λ p l. ap (λ (u : Element). u ⊗ pow gf512 x p) (coefficient_low b bs p l))

-- two polynomials of one length, added coefficient by coefficient
pub value_added : (x : Element) (bs cs : List ℕ) → length bs ≡ length cs → value x (zip_with bit_xor bs cs) ≡ value x bs ⊕ value x cs
unfolding zip_with
value_added x [] [] e = simp (value-nil, ring)
value_added x [] (c ∷ cs) e = absurd (omega arith)
value_added x (b ∷ bs) [] e = absurd (omega arith)
value_added x (b ∷ bs) (c ∷ cs) e =
    let l : length bs ≡ length cs = omega arith in
    simp (value-cons, value_added x bs cs l, length-zip_with bit_xor bs cs l, of_xor, l, ring)
