-- Logarithms: every element but 0 is a^i for exactly one i below 511, and the logarithm of a product is the sum of the logarithms.
-- Assumes nothing.
use mathlib.Core.Path.{◌≡◌, refl, sym, ap, ap₂, ◌∙◌, subst}
use mathlib.Core.Bool.{Bool, not, ◌&&◌}
use mathlib.Core.Logic.{◌≢◌}
use Prim.Native.Nat.{ℕ, zero, suc, ◌+◌, ◌-◌, ◌*◌, ◌≤◌, ◌<◌, min}
use native.Mathlib.Nat.{mod-lt}
use native.Mathlib.Decide.{ℕ_discrete, dec_lt}
use native.Mathlib.Omega.{arith}
use lib.Dec.{T, eqb, ltb, eqb→eq, ltb→lt, lit<}
use lib.ListN.{length, get_or}
use Rattle.ground.proofs.Tests.{both, all, all_at, every, every_at}
use Rattle.field.specs.Field.{element, shifted, power, product}
use Rattle.field.specs.Tables.{powers_from, place_from, listed, log_table, power_table, product_from}
use Rattle.field.proofs.Products.{product-element, product-element_left, product_0, zero-product}
use Rattle.field.proofs.Powers.{power_511, power_again, powers_at, product-power, power_table_at, power_table_last}

unfoldable pub log : ℕ → ℕ
log x = get_or log_table x 0

-- ---- the table holds the logarithms, by computation

right : ℕ → ℕ → Bool
right zero i = eqb i 1021
right (suc x) i = ltb i 511 && eqb (get_or (powers_from 511 1) i 0) (suc x)

table_test : T (every right 0 log_table)
unfolding right log_table listed place_from powers_from shifted
table_test = tt

table_length : length log_table ≡ 512
unfolding log_table listed
table_length = refl

entry : (x : ℕ) → x < 512 → T (right x (log x))
unfolding log
entry x h = every_at right 0 log_table table_test x (subst (λ (n : ℕ). x < n) (sym table_length) h)

pub log_0 : log 0 ≡ 1021
unfolding right
log_0 = eqb→eq (log 0) 1021 (entry 0 (lit< tt))

log_is : (x : ℕ) → x ≢ 0 → x < 512 → (log x < 511) × (power (log x) ≡ x)
unfolding right
log_is zero z h = absurd (z refl)
log_is (suc x) z h =
    let i = log (suc x) in
    let passed = both (ltb i 511) (eqb (get_or (powers_from 511 1) i 0) (suc x)) (entry (suc x) h) in
    let low : i < 511 = ltb→lt i 511 passed.0 in
    (low, sym (powers_at 511 i low) ∙ eqb→eq (get_or (powers_from 511 1) i 0) (suc x) passed.1)

pub log-lt : (x : ℕ) → x ≢ 0 → x < 512 → log x < 511
log-lt x z h = (log_is x z h).0

pub power-log : (x : ℕ) → x ≢ 0 → x < 512 → power (log x) ≡ x
power-log x z h = (log_is x z h).1

pub log_none : (x : ℕ) → x < 512 → 511 ≤ log x → x ≡ 0
log_none x h l = go (ℕ_discrete x 0)
  where
    go : Dec (x ≡ 0) → x ≡ 0
    go (yes z) = z
    go (no z) = absurd (omega (arith, log-lt x z h))

pub log_some : (x : ℕ) → x < 512 → log x < 511 → power (log x) ≡ x
log_some x h l = power-log x (λ z. omega (arith, rw (z, log_0) at l)) h

pub log-le : (x : ℕ) → x < 512 → log x ≤ 1021
log-le x h = go (ℕ_discrete x 0)
  where
    go : Dec (x ≡ 0) → log x ≤ 1021
    go (yes z) = rw (z, log_0) (omega arith)
    go (no z) = omega (arith, log-lt x z h)

-- ---- the powers below 511 differ

-- none of a^1 to a^510 is 1
power_test : T (all 510 (λ i. not (eqb (get_or (powers_from 511 1) (suc i) 0) 1)))
unfolding powers_from shifted
power_test = tt

-- of equal powers a^i and a^j, a^(j - i) would be 1
pub power-ne : (i j : ℕ) → i < j → j < 511 → power i ≢ power j
power-ne i j l h e =
    let k = j - suc i in
    let round : 511 - i + j ≡ 1 * 511 + suc k = omega arith in
    let whole : 511 - i + i ≡ 511 = omega arith in
    let one : power (suc k) ≡ 1 = sym (power_again 1 (suc k)) ∙ ap power (sym round) ∙ sym (product-power (511 - i) j)
    ∙ ap (product (power (511 - i))) (sym e) ∙ product-power (511 - i) i ∙ ap power whole ∙ power_511 in
    rw (powers_at 511 (suc k) (omega arith), one) at (all_at 510 (λ i. not (eqb (get_or (powers_from 511 1) (suc i) 0) 1)) power_test k (omega arith))

pub power_inj : (i j : ℕ) → i < 511 → j < 511 → power i ≡ power j → i ≡ j
power_inj i j hi hj e = go (dec_lt i j) (dec_lt j i)
  where
    go : Dec (i < j) → Dec (j < i) → i ≡ j
    go (yes l) _ = absurd (power-ne i j l hj e)
    go (no _) (yes l) = absurd (power-ne j i l hi (sym e))
    go (no k) (no l) = omega arith

-- ---- the product by logarithms

pub product-log : (x y : ℕ) → x ≢ 0 → x < 512 → y ≢ 0 → y < 512 → product x y ≡ power (log x + log y)
product-log x y zx hx zy hy = sym (ap₂ product (power-log x zx hx) (power-log y zy hy)) ∙ product-power (log x) (log y)

-- what two entries of the table of logarithms give
joined : ℕ → ℕ → ℕ
joined i j = get_or power_table (min (i + j) 1021) 0

joined_0 : (i j : ℕ) → 1021 < suc (i + j) → joined i j ≡ 0
unfolding joined
joined_0 i j h = let e : min (i + j) 1021 ≡ 1021 = omega arith in rw e power_table_last

joined_log : (i j : ℕ) → i < 511 → j < 511 → joined i j ≡ power (i + j)
unfolding joined
joined_log i j hi hj = let e : min (i + j) 1021 ≡ i + j = omega arith in rw e (power_table_at (i + j) (omega arith))

joined-product : (x y : ℕ) → x < 512 → y < 512 → Dec (x ≡ 0) → Dec (y ≡ 0) → joined (log x) (log y) ≡ product x y
joined-product x y hx hy (yes z) _ = rw (z, log_0, zero-product) (joined_0 1021 (log y) (omega arith))
joined-product x y hx hy (no zx) (yes z) = rw (z, log_0, product_0) (joined_0 (log x) 1021 (omega arith))
joined-product x y hx hy (no zx) (no zy) =
    joined_log (log x) (log y) (log-lt x zx hx) (log-lt y zy hy) ∙ sym (product-log x y zx hx zy hy)

-- our two tables give the product
pub product_from_lem : (x y : ℕ) → product_from log_table power_table x y ≡ product x y
unfolding product_from log joined
product_from_lem x y =
    joined-product (element x) (element y) (mod-lt x (lit< tt)) (mod-lt y (lit< tt)) (ℕ_discrete (element x) 0) (ℕ_discrete (element y) 0)
    ∙ product-element x y

-- and one look into each gives a product with a small power
pub times_power_lem : (x e : ℕ) → e < 511 → get_or power_table (min (log (element x) + e) 1021) 0 ≡ product x (power e)
unfolding joined
times_power_lem x e low = go (ℕ_discrete (element x) 0) ∙ product-element_left x (power e)
  where
    go : Dec (element x ≡ 0) → joined (log (element x)) e ≡ product (element x) (power e)
    go (yes z) = rw (z, log_0, zero-product) (joined_0 1021 e (omega arith))
    go (no z) =
        joined_log (log (element x)) e (log-lt (element x) z (mod-lt x (lit< tt))) low ∙ sym (product-power (log (element x)) e)
        ∙ ap (λ (u : ℕ). product u (power e)) (power-log (element x) z (mod-lt x (lit< tt)))
