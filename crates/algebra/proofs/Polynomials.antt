-- Polynomials with the n coefficients p 0, .., p (n - 1): their values, and how many roots they have.
-- Assumes nothing.
use mathlib.Core.Path.{◌≡◌, refl, sym}
use mathlib.Core.Logic.{◌≢◌}
use Prim.Native.Nat.{ℕ, zero, suc, ◌≤◌}
use native.Mathlib.Omega.{arith}
use Rattle.algebra.proofs.Fields.{Field2, ring, zero-add, add-zero, mul-zero, eq_of_add, factor_zero}
use Rattle.algebra.proofs.Places.{Distinct, roots, roots_nil, roots_skip, roots_take, roots_mono}
use Rattle.algebra.proofs.Series.{mix, shift, shift_zero, shift_suc}

module _ (F : Field2) where
  open F use {Element, zero as 𝟘, add as ◌⊕◌, mul as ◌⊗◌}

  infixl 60 ◌⊕◌
  infixl 70 ◌⊗◌
  -- by Horner's rule
  unfoldable pub ev : ℕ → (ℕ → Element) → Element → Element
  ev zero p x = 𝟘
  ev (suc n) p x = p zero ⊕ x ⊗ ev n (λ i. p (suc i)) x

  pub ev_zero : (p : ℕ → Element) (x : Element) → ev zero p x ≡ 𝟘
  unfolding ev
  ev_zero p x = refl

  pub ev-suc : (n : ℕ) (p : ℕ → Element) (x : Element) → ev (suc n) p x ≡ p zero ⊕ x ⊗ ev n (λ i. p (suc i)) x
  unfolding ev
  ev-suc n p x = refl

  ruleset evs = (ring, ev_zero, ev-suc)

  -- coefficients that are zero may be left out
  pub ev_trim : (d n : ℕ) (p : ℕ → Element) (x : Element) → d ≤ n → ((i : ℕ) → d ≤ i → p i ≡ 𝟘) → ev n p x ≡ ev d p x
  ev_trim zero zero p x l h = refl
  ev_trim zero (suc n) p x l h =
      simp (ev_zero, ev-suc, h zero (omega arith), ev_trim zero n (λ i. p (suc i)) x (omega arith) (λ i k. h (suc i) (omega arith)), ring)
  ev_trim (suc d) zero p x l h = absurd (omega arith)
  ev_trim (suc d) (suc n) p x l h = simp (ev-suc, ev_trim d n (λ i. p (suc i)) x (omega arith) (λ i k. h (suc i) (omega arith)))

  pub ev-mix : (n : ℕ) (b d : Element) (p q : ℕ → Element) (x : Element) → ev n (mix F b d p q) x ≡ b ⊗ ev n p x ⊕ d ⊗ ev n q x
  unfolding mix
  ev-mix zero b d p q x = simp evs
  ev-mix (suc n) b d p q x = simp (ev-suc, ev-mix n b d (λ i. p (suc i)) (λ i. q (suc i)) x, ring)

  pub ev-shift : (n : ℕ) (p : ℕ → Element) (x : Element) → ev (suc n) (shift F p) x ≡ x ⊗ ev n p x
  ev-shift n p x = simp (ev-suc, shift_zero, shift_suc, zero-add)

  -- the quotient by x + a
  quotient : ℕ → (ℕ → Element) → Element → ℕ → Element
  quotient zero p a i = 𝟘
  quotient (suc n) p a zero = ev (suc n) (λ i. p (suc i)) a
  quotient (suc n) p a (suc i) = quotient n (λ i. p (suc i)) a i

  factor : (n : ℕ) (p : ℕ → Element) (x a : Element) → ev (suc n) p x ≡ ev (suc n) p a ⊕ (x ⊕ a) ⊗ ev n (quotient n p a) x
  unfolding quotient
  factor zero p x a = rw (ev-suc zero p x, ev-suc zero p a) (simp (ev_zero, ring))
  factor (suc n) p x a =
      rw (ev-suc (suc n) p x, factor n (λ i. p (suc i)) x a, ev-suc (suc n) p a, ev-suc n (quotient (suc n) p a) x) (simp ring)

  quotient_lead : (d : ℕ) (p : ℕ → Element) (a : Element) → p zero ≢ 𝟘 → ev (suc (suc d)) p a ≡ 𝟘 → quotient (suc d) p a zero ≢ 𝟘
  unfolding quotient
  quotient_lead d p a z h e = z (rw (ev-suc (suc d) p a, e, mul-zero, add-zero) at h)

  other_root : (d : ℕ) (p : ℕ → Element) (x a : Element) → x ≢ a → ev (suc d) p a ≡ 𝟘 → ev (suc d) p x ≡ 𝟘 → ev d (quotient d p a) x ≡ 𝟘
  other_root d p x a ne g h = factor_zero F (x ⊕ a) _ (λ e. ne (eq_of_add F x a e)) (sym (rw (g, h, zero-add) at (factor d p x a)))

  module _ (Y : ℕ → Element) where
    step : (n d : ℕ) (p : ℕ → Element) → p zero ≢ 𝟘 → Distinct (suc n) Y
        → ((d : ℕ) (p : ℕ → Element) → p zero ≢ 𝟘 → roots F n (λ l. ev (suc d) p (Y l)) ≤ d)
        → Dec (ev (suc d) p (Y n) ≡ 𝟘) → roots F (suc n) (λ l. ev (suc d) p (Y l)) ≤ d
    step n d p z h ih (no k) = rw (roots_skip F n (λ l. ev (suc d) p (Y l)) k) (ih d p z)
    step n zero p z h ih (yes k) = absurd (z (rw (ev-suc zero p (Y n), ev_zero, mul-zero, add-zero) at k))
    step n (suc d) p z h ih (yes k) =
        let q = quotient (suc d) p (Y n) in
        let t = roots_take F n (λ l. ev (suc (suc d)) p (Y l)) k in
        let m = roots_mono F n _ _ (λ l b. other_root (suc d) p (Y l) (Y n) (h l n b (omega arith)) k) in
        let r = ih d q (quotient_lead d p (Y n) z k) in
        omega arith

    -- a polynomial with a constant term has no more roots than its degree
    pub few_roots : (n d : ℕ) (p : ℕ → Element) → p zero ≢ 𝟘 → Distinct n Y → roots F n (λ l. ev (suc d) p (Y l)) ≤ d
    few_roots zero d p z h = rw roots_nil (omega arith)
    few_roots (suc n) d p z h =
        step n d p z h (λ d p z. few_roots n d p z (λ i j k l. h i j k (omega arith))) (F.same? (ev (suc d) p (Y n)) 𝟘)
