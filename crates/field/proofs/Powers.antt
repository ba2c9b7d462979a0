-- The powers of a: exponents add up, and they begin again at 511.
-- Assumes nothing.
use mathlib.Core.Path.{◌≡◌, refl, sym, ap, ◌∙◌, subst}
use mathlib.Core.Logic.{◌≢◌}
use mathlib.Core.List.{[], ◌∷◌}
use Prim.Native.Nat.{ℕ, zero, suc, ◌+◌, ◌*◌, ◌/◌, ◌%◌, ◌<◌}
use native.Mathlib.Nat.{zero-add, suc-add, add-suc, add-zero, le_of_suc-le-suc, not-suc-le-zero, mod-eq_of_lt, div-add-mod'}
use native.Mathlib.Omega.{arith}
use lib.Dec.{lit<}
use lib.ListN.{length, get_or, get_or-append, length-append}
use lib.Seq.{get_or_at}
use Rattle.field.specs.Field.{shifted, power, product}
use Rattle.field.specs.Tables.{powers_from, power_table}
use Rattle.field.proofs.Products.{shifted-lt, product_assoc, one-product, a_product, zero-product}

pub power-lt : (i : ℕ) → power i < 512
unfolding power
power-lt zero = lit< tt
power-lt (suc i) = shifted-lt (power i)

pub power_0 : power 0 ≡ 1
unfolding power
power_0 = refl

pub power-suc : (i : ℕ) → power (suc i) ≡ product 2 (power i)
unfolding power
power-suc i = sym (a_product (power i) (power-lt i))

pub product-power : (i j : ℕ) → product (power i) (power j) ≡ power (i + j)
product-power zero j = rw power_0 (one-product (power j) ∙ mod-eq_of_lt (power-lt j) ∙ ap power (sym (zero-add j)))
product-power (suc i) j =
    rw power-suc (product_assoc 2 (power i) (power j) ∙ ap (product 2) (product-power i j) ∙ sym (power-suc (i + j)) ∙ ap power (sym (suc-add i j)))

pub power_511 : power 511 ≡ 1
unfolding power shifted
power_511 = refl

pub power_again : (q i : ℕ) → power (q * 511 + i) ≡ power i
power_again zero i = ap power (omega arith)
power_again (suc q) i =
    let e : suc q * 511 + i ≡ 511 + (q * 511 + i) = omega arith in
    ap power e ∙ sym (product-power 511 (q * 511 + i)) ∙ ap (λ (x : ℕ). product x (power (q * 511 + i))) power_511
    ∙ one-product (power (q * 511 + i)) ∙ mod-eq_of_lt (power-lt (q * 511 + i)) ∙ power_again q i

pub power-mod : (i : ℕ) → power (i % 511) ≡ power i
power-mod i = sym (power_again (i / 511) (i % 511)) ∙ ap power (div-add-mod' i 511)

-- a power times another is 1, so it is not 0
pub power-ne_0 : (i : ℕ) → power i ≢ 0
power-ne_0 i z =
    let e : i + i * 510 ≡ i * 511 + 0 = omega arith in
    let one : ◌≡◌ {A = ℕ} 0 1
    = sym (zero-product (power (i * 510))) ∙ ap (λ (x : ℕ). product x (power (i * 510))) (sym z) ∙ product-power i (i * 510)
    ∙ ap power e ∙ power_again i 0 ∙ power_0 in
    omega arith

-- ---- the table of the powers

powers_from_at : (n i k : ℕ) → k < n → get_or (powers_from n (power i)) k 0 ≡ power (i + k)
unfolding powers_from power
powers_from_at zero i k h = absurd (not-suc-le-zero h)
powers_from_at (suc n) i zero h = ap power (sym (add-zero i))
powers_from_at (suc n) i (suc k) h = powers_from_at n (suc i) k (le_of_suc-le-suc h) ∙ ap power (suc-add i k ∙ sym (add-suc i k))

powers_from-length : (n x : ℕ) → length (powers_from n x) ≡ n
unfolding powers_from
powers_from-length zero x = refl
powers_from-length (suc n) x = ap suc (powers_from-length n (shifted x))

pub powers_at : (n k : ℕ) → k < n → get_or (powers_from n 1) k 0 ≡ power k
unfolding power
powers_at n k h = powers_from_at n 0 k h ∙ ap power (zero-add k)

pub power_table-length : length power_table ≡ 1022
unfolding power_table
power_table-length = length-append (powers_from 1021 1) (0 ∷ []) ∙ ap (λ (n : ℕ). n + 1) (powers_from-length 1021 1)

pub power_table_at : (k : ℕ) → k < 1021 → get_or power_table k 0 ≡ power k
unfolding power_table
power_table_at k h =
    get_or-append (powers_from 1021 1) (0 ∷ []) 0 k (subst (λ (n : ℕ). k < n) (sym (powers_from-length 1021 1)) h) ∙ powers_at 1021 k h

pub power_table_last : get_or power_table 1021 0 ≡ 0
unfolding power_table
power_table_last = get_or_at (powers_from 1021 1) 0 [] 0 1021 (powers_from-length 1021 1)
