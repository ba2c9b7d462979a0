-- Words of n places, their syndromes at the powers of α, and what Berlekamp and Massey find from these: the places that are not zero.
-- Assumes nothing.
use mathlib.Core.Path.{◌≡◌, refl, ◌∙◌}
use mathlib.Core.Logic.{◌≢◌}
use Prim.Native.Nat.{ℕ, zero, suc, ◌+◌, ◌≤◌, ◌<◌}
use native.Mathlib.Omega.{arith}
use native.Mathlib.Nat.{add-suc}
use native.Mathlib.Numerals.{add-one}
use Rattle.algebra.proofs.Fields.{Field2, ring, zero-mul, mul-one, one-mul, mul_comm, mul_assoc, add-mul, factor_zero}
use Rattle.algebra.proofs.Sums.{sum, sum-add, sum_cong, sum-zero}
use Rattle.algebra.proofs.Powers.{pow, pow-suc, pow-ne-zero}
use Rattle.algebra.proofs.Places.{Distinct, Vanishing, weight, weight_times, roots, weight-roots, roots_exact}
use Rattle.algebra.proofs.Vandermonde.{vander_from}
use Rattle.algebra.proofs.Series.{Degree, conv, conv-zero, conv-suc, conv_cong, conv_sums}
use Rattle.algebra.proofs.Polynomials.{ev, ev_zero, ev-suc, ev_trim, few_roots}
use Rattle.algebra.proofs.Massey.{Generates}
use Rattle.algebra.proofs.Berlekamp.{Found}
use Rattle.algebra.proofs.Locator.{Locates, locator_of}

module _ (F : Field2) where
  open F use {Element, zero as 𝟘, one as 𝟙, add as ◌⊕◌, mul as ◌⊗◌, inv}

  infixl 60 ◌⊕◌
  infixl 70 ◌⊗◌
  -- the value of the word w at the power i + 1 of α
  unfoldable pub synd : Element → ℕ → (ℕ → Element) → ℕ → Element
  synd α n w i = sum F n (λ p. w p ⊗ pow F (pow F α p) (suc i))

  pub synd-add : (α : Element) (n : ℕ) (v w : ℕ → Element) (i : ℕ) → synd α n (λ p. v p ⊕ w p) i ≡ synd α n v i ⊕ synd α n w i
  unfolding synd
  synd-add α n v w i = simp (add-mul, sum-add)

  -- the value at the inverse of the power p of α of the polynomial f, of degree at most d
  abbrev pub value : Element → ℕ → (ℕ → Element) → ℕ → Element
  value α d f p = ev F (suc d) f (inv (pow F α p))

  horner : (a c x y e p : Element) → x ⊗ y ≡ 𝟙 → a ⊗ (c ⊗ (x ⊗ p)) ⊕ c ⊗ e ⊗ p ≡ c ⊗ (a ⊕ y ⊗ e) ⊗ (x ⊗ p)
  horner a c x y e p h = rw (← one-mul F (c ⊗ e ⊗ p), ← h) (simp ring)

  -- a product with a geometric series is a value at the inverse of its ratio
  conv-pow : (f : ℕ → Element) (c x y : Element) → x ⊗ y ≡ 𝟙 → (n : ℕ)
      → conv F f (λ j. c ⊗ pow F x (suc j)) n ≡ c ⊗ ev F (suc n) f y ⊗ pow F x (suc n)
  conv-pow f c x y h zero = rw (conv-zero, ev-suc F zero f y, ev_zero) (simp ring)
  conv-pow f c x y h (suc n) =
      rw (conv-suc, conv-pow (λ i. f (suc i)) c x y h n, ev-suc F (suc n) f y, pow-suc F x (suc n)) (horner (f zero) c x y _ _ h)

  inv_inj : (a b : Element) → a ≢ 𝟘 → b ≢ 𝟘 → inv a ≡ inv b → a ≡ b
  inv_inj a b p q h = cc (F.mul-inv a p, F.mul-inv b q, mul-one F a, mul_comm F b (inv b), mul_assoc F a (inv b) b, one-mul F b)

  module _ (α : Element) (nz : α ≢ 𝟘) where
    pow_nz : (p : ℕ) → pow F α p ≢ 𝟘
    pow_nz p = pow-ne-zero F α p nz

    -- past the degree of f, its product with the syndromes is a power sum of its values
    conv-synd : (n : ℕ) (w f : ℕ → Element) (d i : ℕ) → Degree F d f → d ≤ i
        → conv F f (synd α n w) i ≡ sum F n (λ p. w p ⊗ value α d f p ⊗ pow F (pow F α p) (suc i))
    unfolding synd
    conv-synd n w f d i h k = conv_sums F f n (λ p j. w p ⊗ pow F (pow F α p) (suc j)) i ∙ sum_cong F n _ _ (λ p _.
        conv-pow f (w p) (pow F α p) _ (F.mul-inv _ (pow_nz p)) i ∙ rw (ev_trim F (suc d) (suc i) f _ (omega arith) h))

    module _ (n : ℕ) (order : Distinct n (pow F α)) where
      -- a polynomial vanishes at no more places than its degree
      pub few_places : (f : ℕ → Element) (d : ℕ) → f zero ≢ 𝟘 → roots F n (value α d f) ≤ d
      few_places f d z = few_roots F (λ p. inv (pow F α p)) n d f z (λ i j k l e. order i j k l (inv_inj _ _ (pow_nz i) (pow_nz j) e))

      -- a word whose first d syndromes are zero, and whose weight is at most d, is zero
      pub bound : (w : ℕ → Element) (d : ℕ) → Vanishing F d (synd α n w) → weight F n w ≤ d → Vanishing F n w
      unfolding synd
      bound w d h k = vander_from F 1 (pow F α) n w order (λ p _. pow_nz p) (λ i l. simp add-one (h i (omega arith)))

      -- a series S that begins with the syndromes of w
      module _ (w : ℕ → Element) {N : ℕ} {S : ℕ → Element} (known : (i : ℕ) → i < N → S i ≡ synd α n w i) where
        conv_known : (f : ℕ → Element) (d i : ℕ) → Degree F d f → i < N → d ≤ i
            → conv F f S i ≡ sum F n (λ p. w p ⊗ value α d f p ⊗ pow F (pow F α p) (suc i))
        conv_known f d i h l k = conv_cong F f f S (synd α n w) i (λ _ _. refl) (λ j m. known j (omega arith)) ∙ conv-synd n w f d i h k

        generated : {f : ℕ → Element} → Locates F (pow F α) n w f → Generates F S N f (weight F n w)
        generated {f} g = record {
          lead = g.lead;
          degree = g.degree;
          vanish = λ i l k. conv_known f _ i g.degree l k ∙ sum-zero F n _ (λ p m. rw (g.vanish p m) (zero-mul F _));
        }

        -- and is known far enough for the weight of w
        module _ (few : weight F n w + weight F n w ≤ N) {locator T : ℕ → Element} {len : ℕ} {b : Element}
            (found : Found F S N locator T len b) where
          short : len ≤ weight F n w
          short = let t = locator_of F (pow F α) n w (λ p _. pow_nz p) in found.least t.0 _ (generated t.1)

          term_zero : (i : ℕ) → i < weight F n w → sum F n (λ p. w p ⊗ value α len locator p ⊗ pow F (pow F α p) (i + suc len)) ≡ 𝟘
          term_zero i l =
              let s = short in
              rw (add-suc, ← conv_known locator len (i + len) found.current.degree (omega arith) (omega arith))
              (found.current.vanish (i + len) (omega arith) (omega arith))

          pub root_of_error : (p : ℕ) → p < n → w p ≢ 𝟘 → value α len locator p ≡ 𝟘
          root_of_error p l h =
              let m = weight_times F n w (value α len locator) in
              factor_zero F (w p) _ h (vander_from F (suc len) (pow F α) n _ order (λ p _. pow_nz p) (λ i k. term_zero i (omega arith)) p l)

          squeeze : (len ≤ weight F n w) × (weight F n w ≤ roots F n (value α len locator)) × (roots F n (value α len locator) ≤ len)
          squeeze = (short, weight-roots F n w _ root_of_error, few_places locator len found.current.lead)

          pub len_is_weight : len ≡ weight F n w
          len_is_weight = omega (arith, squeeze)

          pub error_of_root : (p : ℕ) → p < n → value α len locator p ≡ 𝟘 → w p ≢ 𝟘
          error_of_root = roots_exact F n w _ root_of_error (omega (arith, squeeze))
