-- GF(512) as a field of characteristic 2: its elements are the numbers below 512.
-- `element_of` takes any number to its element, and every operation goes with it.
-- Assumes nothing.
use mathlib.Core.Path.{◌≡◌, refl, sym, ap, ◌∙◌}
use mathlib.Core.HLevel.{Σ_prop_path}
use Prim.Native.Nat.{ℕ, ◌<◌}
use native.Mathlib.Bridge.{le_prop}
use native.Mathlib.Decide.{ℕ_discrete}
use native.Mathlib.Nat.{mod-lt, mod-eq_of_lt}
use native.Mathlib.Omega.{arith}
use lib.Bits.{bit_xor, xor_mod}
use lib.Dec.{lit<}
use Rattle.algebra.proofs.Fields.{Field2}
use Rattle.field.specs.Field.{element, sum, product, inverse}
use Rattle.field.proofs.Sums.{sum_lt, sum_comm, sum_assoc, sum_self, sum_0, sum-element}
use Rattle.field.proofs.Products.{product_lt, product_comm, product_assoc, product-sum, one-product, product-element}
use Rattle.field.proofs.Inverses.{product-inverse, inverse-lt}

-- ---- numbers below 512

abbrev pub Small : Type 0
Small = (x : ℕ) × (x < 512)

same : {u v : Small} → u.0 ≡ v.0 → u ≡ v
same e = Σ_prop_path (λ x. le_prop) e

same? : (u v : Small) → Dec (u.0 ≡ v.0) → Dec (u ≡ v)
same? u v (yes e) = yes (same e)
same? u v (no n) = no (λ e. n (ap (λ (w : Small). w.0) e))

-- an element as it stands is its nine low digits
low : (u : Small) → element u.0 ≡ u.0
low u = mod-eq_of_lt u.1

-- ---- the field

pub gf512 : Field2
gf512 = record {
  Element = Small;
  zero = (0, lit< tt);
  one = (1, lit< tt);
  add = λ u v. (sum u.0 v.0, sum_lt u.0 v.0);
  mul = λ u v. (product u.0 v.0, product_lt u.0 v.0);
  inv = λ u. (inverse u.0, inverse-lt u.0);
  same? = λ u v. same? u v (ℕ_discrete u.0 v.0);
  add_comm = λ u v. same (sum_comm u.0 v.0);
  add_assoc = λ u v w. same (sum_assoc u.0 v.0 w.0);
  zero-add = λ u. same (sum_comm 0 u.0 ∙ sum_0 u.0 ∙ low u);
  add_self = λ u. same (sum_self u.0);
  mul_comm = λ u v. same (product_comm u.0 v.0);
  mul_assoc = λ u v w. same (product_assoc u.0 v.0 w.0);
  one-mul = λ u. same (one-product u.0 ∙ low u);
  mul-add = λ u v w. same (product-sum u.0 v.0 w.0);
  one-ne-zero = λ e. (let z : ◌≡◌ {A = ℕ} 1 0 = ap (λ (u : Small). u.0) e in omega arith);
  mul-inv = λ u z. same (product-inverse u.0 (λ e. z (same (sym (low u) ∙ e))));
}

-- ---- numbers and elements

pub element_of : ℕ → gf512.Element
unfolding gf512
element_of x = (element x, mod-lt x (lit< tt))

pub number : gf512.Element → ℕ
unfolding gf512
number u = u.0

pub number_of : (x : ℕ) → number (element_of x) ≡ element x
unfolding number element_of
number_of x = refl

pub of_0 : element_of 0 ≡ gf512.zero
unfolding gf512 element_of
of_0 = same refl

pub of_1 : element_of 1 ≡ gf512.one
unfolding gf512 element_of
of_1 = same refl

pub of_sum : (x y : ℕ) → element_of (sum x y) ≡ gf512.add (element_of x) (element_of y)
unfolding gf512 element_of
of_sum x y = same (mod-eq_of_lt (sum_lt x y) ∙ sym (sum-element x y))

-- of all numbers, since digits are added one by one
pub of_xor : (x y : ℕ) → element_of (bit_xor x y) ≡ gf512.add (element_of x) (element_of y)
unfolding gf512 element_of sum
of_xor x y = same (xor_mod x y 9 ∙ sym (sum-element x y))

pub of_product : (x y : ℕ) → element_of (product x y) ≡ gf512.mul (element_of x) (element_of y)
unfolding gf512 element_of
of_product x y = same (mod-eq_of_lt (product_lt x y) ∙ sym (product-element x y))

-- a number stands for zero exactly where its nine low digits are 0
pub of_zero : (x : ℕ) → element_of x ≡ gf512.zero → element x ≡ 0
unfolding gf512 element_of
of_zero x e = ap (λ (u : Small). u.0) e
