-- Inverses, and products that are 0.
-- Assumes nothing.
use mathlib.Core.Path.{◌≡◌, refl, sym, ap, ap₂, ◌∙◌}
use mathlib.Core.Logic.{◌≢◌, ◌⊎◌, inl, inr}
use Prim.Native.Nat.{ℕ, zero, suc, ◌+◌, ◌-◌, ◌*◌, ◌<◌, min}
use native.Mathlib.Decide.{ℕ_discrete}
use native.Mathlib.Nat.{mod-lt}
use native.Mathlib.Omega.{arith}
use lib.Dec.{lit<}
use lib.ListN.{get_or}
use Rattle.field.specs.Field.{element, power, product, raised, inverse}
use Rattle.field.specs.Tables.{power_table}
use Rattle.field.proofs.Products.{product_lt, product-element, product-element_left, zero-product}
use Rattle.field.proofs.Powers.{power_0, product-power, power_again, power-ne_0, power_table_at}
use Rattle.field.proofs.Logarithms.{log, log-lt, power-log, product-log}

raised-element : (x n : ℕ) → raised (element x) n ≡ raised x n
unfolding raised
raised-element x zero = refl
raised-element x (suc n) = product-element_left x (raised (element x) n) ∙ ap (product x) (raised-element x n)

raised-power : (i n : ℕ) → raised (power i) n ≡ power (n * i)
unfolding raised
raised-power i zero = sym power_0 ∙ ap power (omega arith)
raised-power i (suc n) = ap (product (power i)) (raised-power i n) ∙ product-power i (n * i) ∙ ap power (omega arith)

pub inverse_0 : inverse 0 ≡ 0
unfolding inverse raised
inverse_0 = zero-product (raised 0 509)

-- the logarithms of an element and its inverse add up to 511
inverse-power : (i : ℕ) → i < 511 → inverse (power i) ≡ power (511 - i)
unfolding inverse
inverse-power i l =
    let e : 510 * i + 511 ≡ i * 511 + (511 - i) = omega arith in
    let e' : 510 * i + 511 ≡ 1 * 511 + 510 * i = omega arith in
    raised-power i 510 ∙ sym (power_again 1 (510 * i)) ∙ ap power (sym e' ∙ e) ∙ power_again i (511 - i)

inverse-log : (x : ℕ) → x ≢ 0 → x < 512 → inverse x ≡ power (511 - log x)
inverse-log x z h = ap inverse (sym (power-log x z h)) ∙ inverse-power (log x) (log-lt x z h)

inverse-element : (x : ℕ) → inverse (element x) ≡ inverse x
unfolding inverse
inverse-element x = raised-element x 510

pub inverse-lt : (x : ℕ) → inverse x < 512
unfolding inverse raised
inverse-lt x = product_lt x (raised x 509)

below_512 : (x : ℕ) → x ≢ 0 → x < 512 → product x (inverse x) ≡ 1
below_512 x z h =
    let l : log x < 511 = log-lt x z h in
    let e : log x + (511 - log x) ≡ 1 * 511 + 0 = omega arith in
    ap₂ product (sym (power-log x z h)) (inverse-log x z h) ∙ product-power (log x) (511 - log x) ∙ ap power e ∙ power_again 1 0 ∙ power_0

pub product-inverse : (x : ℕ) → element x ≢ 0 → product x (inverse x) ≡ 1
product-inverse x z =
    sym (product-element_left x (inverse x)) ∙ ap (product (element x)) (sym (inverse-element x)) ∙ below_512 (element x) z (mod-lt x (lit< tt))

pub no_zero_divisors : (x y : ℕ) → product x y ≡ 0 → (element x ≡ 0) ⊎ (element y ≡ 0)
no_zero_divisors x y e = go (ℕ_discrete (element x) 0) (ℕ_discrete (element y) 0)
  where
    go : Dec (element x ≡ 0) → Dec (element y ≡ 0) → (element x ≡ 0) ⊎ (element y ≡ 0)
    go (yes z) _ = inl z
    go (no _) (yes z) = inr z
    go (no zx) (no zy) =
        absurd (power-ne_0 (log (element x) + log (element y))
        (sym (product-log (element x) (element y) zx (mod-lt x (lit< tt)) zy (mod-lt y (lit< tt))) ∙ product-element x y ∙ e))

-- ---- the inverse by the logarithm

pub inverse_none : (x : ℕ) → element x ≡ 0 → inverse x ≡ 0
inverse_none x z = sym (inverse-element x) ∙ rw z inverse_0

pub inverse_some : (x i : ℕ) → i < 511 → power i ≡ element x → inverse x ≡ get_or power_table (min (511 - i) 1021) 0
inverse_some x i l is =
    let e : min (511 - i) 1021 ≡ 511 - i = omega arith in
    sym (inverse-element x) ∙ ap inverse (sym is) ∙ inverse-power i l ∙ rw e (sym (power_table_at (511 - i) (omega arith)))
