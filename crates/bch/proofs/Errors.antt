-- The difference of two words as an error of the theory: at the place p, counted from the last, stands the sum of their coefficients.
-- Its weight is their distance, and its syndromes are the sums of their values.
-- Assumes nothing.
use mathlib.Core.Path.{◌≡◌, sym, ap, ap₂, ◌∙◌}
use mathlib.Core.List.{List, [], ◌∷◌}
use Prim.Native.Nat.{ℕ, suc, ◌+◌, ◌-◌, ◌<◌}
use native.Mathlib.Nat.{mul_comm}
use native.Mathlib.Decide.{ℕ_discrete}
use native.Mathlib.Omega.{arith}
use lib.ListN.{length, get_or}
use Rattle.algebra.proofs.Fields.{add_of_eq, eq_of_add}
use Rattle.algebra.proofs.Sums.{sum_cong}
use Rattle.algebra.proofs.Places.{weight, weight_nil, weight_skip, weight_take, weight_mono}
use Rattle.algebra.proofs.Powers.{pow, pow-mul}
use Rattle.algebra.proofs.Words.{synd, synd-add}
use Rattle.field.proofs.Elements.{gf512, element_of}
use Rattle.field.proofs.Values.{a, value, coefficient, coefficient_low, coefficient_high, value-sum, of_inj}
use Rattle.bits.specs.Words.{Bits, differ}
use Rattle.bits.proofs.Digits.{bits_at}
use Rattle.bits.proofs.Distances.{apart, apart_same, apart_other, differ-nil, differ-cons}
open gf512 use {Element, zero as 𝟘, add as ◌⊕◌, mul as ◌⊗◌}

infixl 60 ◌⊕◌
infixl 70 ◌⊗◌
-- the sum of the coefficients of x^p
unfoldable pub error : List ℕ → List ℕ → ℕ → Element
error v w p = coefficient v p ⊕ coefficient w p

-- two words of n bits
pub record Pair (n : ℕ) (v w : List ℕ) : Type 0 where
  pub first_bits : Bits v
  pub first_long : length v ≡ n
  pub second_bits : Bits w
  pub second_long : length w ≡ n

bit_inj : (x y : ℕ) → x < 2 → y < 2 → element_of x ≡ element_of y → x ≡ y
bit_inj x y h k = of_inj x y (omega arith) (omega arith)

-- ---- its weight

weight_cong : (n : ℕ) (f g : ℕ → Element) → ((p : ℕ) → p < n → f p ≡ g p) → weight gf512 n f ≡ weight gf512 n g
weight_cong n f g h =
    let k = weight_mono gf512 n f g (λ p l z. h p l ∙ z) in
    let m = weight_mono gf512 n g f (λ p l z. sym (h p l) ∙ z) in
    omega arith

module _ (v w : ℕ) (vs ws : List ℕ) (e : length vs ≡ length ws) where
  error_low : (p : ℕ) → p < length vs → error (v ∷ vs) (w ∷ ws) p ≡ error vs ws p
  unfolding error
  error_low p l = ap₂ ◌⊕◌ (coefficient_low v vs p l) (coefficient_low w ws p (omega arith))

  error_high : error (v ∷ vs) (w ∷ ws) (length vs) ≡ element_of v ⊕ element_of w
  unfolding error
  error_high = ap₂ ◌⊕◌ (coefficient_high v vs) (rw e (coefficient_high w ws))

  weight_low : weight gf512 (length vs) (error (v ∷ vs) (w ∷ ws)) ≡ weight gf512 (length vs) (error vs ws)
  weight_low = weight_cong (length vs) _ _ error_low

  weight_step : v < 2 → w < 2 → Dec (v ≡ w)
      → weight gf512 (suc (length vs)) (error (v ∷ vs) (w ∷ ws)) ≡ apart v w + weight gf512 (length vs) (error vs ws)
  weight_step h k (yes s) =
      weight_skip gf512 (length vs) _ (error_high ∙ add_of_eq gf512 (ap element_of s)) ∙ omega (arith, weight_low, apart_same v w s)
  weight_step h k (no s) =
      weight_take gf512 (length vs) _ (λ z. s (bit_inj v w h k (eq_of_add gf512 _ _ (sym error_high ∙ z))))
      ∙ omega (arith, weight_low, apart_other v w s)

weight-differ : (v w : List ℕ) → Bits v → Bits w → length v ≡ length w → weight gf512 (length v) (error v w) ≡ differ v w
weight-differ [] w bv bw e = weight_nil gf512 _ ∙ e ∙ sym (differ-nil w)
weight-differ (v ∷ vs) [] bv bw e = absurd (omega arith)
weight-differ (v ∷ vs) (w ∷ ws) bv bw e =
    let l : length vs ≡ length ws = omega arith in
    weight_step v w vs ws l bv.0 bw.0 (ℕ_discrete v w) ∙ rw (differ-cons, weight-differ vs ws bv.1 bw.1 l)

-- ---- its syndromes

synd-value : (n : ℕ) (v : List ℕ) → length v ≡ n → (i : ℕ) → synd gf512 a n (coefficient v) i ≡ value (pow gf512 a (suc i)) v
unfolding synd
synd-value n v e i =
    rw (value-sum, e) (sum_cong gf512 n _ _ (λ p _. ap (λ (u : Element). coefficient v p ⊗ u)
    (pow-mul gf512 a p (suc i) ∙ ap (pow gf512 a) (mul_comm p (suc i)) ∙ sym (pow-mul gf512 a (suc i) p))))

-- ---- its places

-- the place of the index i
coefficient_at : (n : ℕ) (v : List ℕ) → length v ≡ n → (i : ℕ) → i < n → coefficient v (n - suc i) ≡ element_of (get_or v i 0)
unfolding coefficient
coefficient_at n v e i l = let s : length v - suc (n - suc i) ≡ i = omega arith in rw s

module _ {n : ℕ} {v w : List ℕ} (pair : Pair n v w) where
  pub weight-error : weight gf512 n (error v w) ≡ differ v w
  weight-error = rw (← pair.first_long) (weight-differ v w pair.first_bits pair.second_bits (pair.first_long ∙ sym pair.second_long))

  pub synd-error : (i : ℕ) → synd gf512 a n (error v w) i ≡ value (pow gf512 a (suc i)) v ⊕ value (pow gf512 a (suc i)) w
  unfolding error
  synd-error i =
      synd-add gf512 a n (coefficient v) (coefficient w) i
      ∙ ap₂ ◌⊕◌ (synd-value n v pair.first_long i) (synd-value n w pair.second_long i)

  pub same_of_error : (i : ℕ) → i < n → error v w (n - suc i) ≡ 𝟘 → get_or v i 0 ≡ get_or w i 0
  unfolding error
  same_of_error i l z =
      bit_inj _ _ (bits_at v pair.first_bits i) (bits_at w pair.second_bits i)
      (sym (coefficient_at n v pair.first_long i l) ∙ eq_of_add gf512 _ _ z ∙ coefficient_at n w pair.second_long i l)

  pub error_of_same : (i : ℕ) → i < n → get_or v i 0 ≡ get_or w i 0 → error v w (n - suc i) ≡ 𝟘
  unfolding error
  error_of_same i l e =
      add_of_eq gf512 (coefficient_at n v pair.first_long i l ∙ ap element_of e ∙ sym (coefficient_at n w pair.second_long i l))
