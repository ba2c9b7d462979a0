-- Vandermonde's lemma, without determinants: where enough power sums of different elements vanish, so do their coefficients.
-- Assumes nothing.
use mathlib.Core.Path.{◌≡◌, ◌∙◌}
use mathlib.Core.Logic.{◌≢◌}
use Prim.Native.Nat.{ℕ, zero, suc, ◌+◌}
use native.Mathlib.Omega.{arith}
use native.Mathlib.Nat.{suc-add}
use Rattle.algebra.proofs.Fields.{Field2, ring, add_self, add-zero, zero-add, zero-mul, mul-zero, mul_comm, eq_of_add, factor_zero}
use Rattle.algebra.proofs.Sums.{sum, sum-suc, sum-zero, sum-add, sum_scale}
use Rattle.algebra.proofs.Powers.{pow, pow-suc, pow-ne-zero}
use Rattle.algebra.proofs.Counts.{below_suc}
use Rattle.algebra.proofs.Places.{Distinct, Nonzero, Vanishing, weight, weight_skip, weight_take, weight_times}

module _ (F : Field2) where
  open F use {Element, zero as 𝟘, add as ◌⊕◌, mul as ◌⊗◌}

  infixl 60 ◌⊕◌
  infixl 70 ◌⊗◌
  module _ (a : ℕ) (X : ℕ → Element) where
    -- the sum of the powers i + a, with coefficients c
    abbrev powersum : ℕ → (ℕ → Element) → ℕ → Element
    powersum n c i = sum F n (λ l. c l ⊗ pow F (X l) (i + a))

    combine : (n : ℕ) (c : ℕ → Element) (y : Element) (i : ℕ)
        → powersum n (λ l. c l ⊗ (X l ⊕ y)) i ≡ powersum n c (suc i) ⊕ y ⊗ powersum n c i
    combine n c y i = simp (← sum_scale, ← sum-add, suc-add, pow-suc, ring)

    module _ (n : ℕ) (c : ℕ → Element) where
      -- two equations give one from which the last element is struck out
      abbrev struck : ℕ → Element
      struck l = c l ⊗ (X l ⊕ X n)

      struck_sum : (i : ℕ) → powersum (suc n) c i ≡ 𝟘 → powersum (suc n) c (suc i) ≡ 𝟘 → powersum n struck i ≡ 𝟘
      struck_sum i g h =
          let q = combine (suc n) c (X n) i in
          simp (sum-suc, add_self, mul-zero, zero-mul, add-zero) at (rw (g, h, mul-zero, add-zero) at q)

      struck_zero : Distinct (suc n) X → Vanishing F n struck → Vanishing F n c
      struck_zero d h l k = factor_zero F (X l ⊕ X n) (c l) (λ e. d l n k (omega arith) (eq_of_add F _ _ e)) (mul_comm F _ _ ∙ h l k)

      last_zero : X n ≢ 𝟘 → Vanishing F n c → powersum (suc n) c zero ≡ 𝟘 → c n ≡ 𝟘
      last_zero z low h =
          let rest : powersum n c zero ≡ 𝟘 = sum-zero F n _ (λ l k. rw (low l k) (zero-mul F _)) in
          factor_zero F _ (c n) (pow-ne-zero F (X n) (zero + a) z) (mul_comm F _ _ ∙ (rw (sum-suc, rest, zero-add) at h))

      step : Distinct (suc n) X → X n ≢ 𝟘 → ((b : ℕ → Element) → Vanishing F (weight F n b) (powersum n b) → Vanishing F n b)
          → Vanishing F (weight F (suc n) c) (powersum (suc n) c) → Dec (c n ≡ 𝟘) → Vanishing F (suc n) c
      step d z ih h (yes k) =
          let e = weight_skip F n c k in
          below_suc (ih c (λ i l. rw (sum-suc, k, zero-mul, add-zero) at (h i (omega arith)))) k
      step d z ih h (no k) =
          let e = weight_take F n c k in
          let m = weight_times F n c (λ l. X l ⊕ X n) in
          let low = struck_zero d (ih struck (λ i l. struck_sum i (h i (omega arith)) (h (suc i) (omega arith)))) in
          below_suc low (last_zero z low (h zero (omega arith)))

    -- as many sums, from the power a on, as there are coefficients other than zero
    pub vander_from : (n : ℕ) (c : ℕ → Element) → Distinct n X → Nonzero F n X
        → Vanishing F (weight F n c) (λ i. sum F n (λ l. c l ⊗ pow F (X l) (i + a))) → Vanishing F n c
    vander_from zero c d z h = λ i l. absurd (omega arith)
    vander_from (suc n) c d z h = step n c d (z n (omega arith))
        (λ b. vander_from n b (λ i j k l. d i j k (omega arith)) (λ i l. z i (omega arith))) h (F.same? (c n) 𝟘)
