-- The locator of a word whose place p stands for X p: a polynomial, of the word's weight as degree, with the root inv (X p)
-- for each place p that is not zero. Assumes nothing.
use mathlib.Core.Path.{◌≡◌, sym, ◌∙◌}
use mathlib.Core.Logic.{◌≢◌}
use Prim.Native.Nat.{ℕ, zero, suc}
use native.Mathlib.Omega.{arith}
use Rattle.algebra.proofs.Fields.{Field2, ring, add-zero, zero-mul, mul-zero, one-mul, mul_left_comm}
use Rattle.algebra.proofs.Counts.{below_suc}
use Rattle.algebra.proofs.Places.{Nonzero, Vanishing, weight, weight_skip, weight_take}
use Rattle.algebra.proofs.Series.{Degree, shift, shift_zero, shift_vanish, mix, mix_at, mix_vanish, unit, unit-zero, unit_past}
use Rattle.algebra.proofs.Polynomials.{ev, ev_trim, ev-mix, ev-shift}

module _ (F : Field2) where
  open F use {Element, zero as 𝟘, one as 𝟙, add as ◌⊕◌, mul as ◌⊗◌, inv}

  infixl 60 ◌⊕◌
  infixl 70 ◌⊗◌
  -- f times 1 + a x
  abbrev link : Element → (ℕ → Element) → ℕ → Element
  link a f = mix F 𝟙 a f (shift F f)

  ev-link : (d : ℕ) (f : ℕ → Element) (a x : Element) → Degree F d f
      → ev F (suc (suc d)) (link a f) x ≡ (𝟙 ⊕ a ⊗ x) ⊗ ev F (suc d) f x
  ev-link d f a x h = rw (ev-mix, ev-shift, ev_trim F (suc d) (suc (suc d)) f x (omega arith) h) (simp ring)

  module _ (X : ℕ → Element) where
    -- f is a locator of w: it vanishes at inv (X p) wherever w p is not zero
    pub record Locates (n : ℕ) (w f : ℕ → Element) : Type 0 where
      pub lead : f zero ≢ 𝟘
      pub degree : Degree F (weight F n w) f
      pub vanish : Vanishing F n (λ p. w p ⊗ ev F (suc (weight F n w)) f (inv (X p)))

    module _ {n : ℕ} {w f : ℕ → Element} (l : Locates n w f) where
      locates_skip : w n ≡ 𝟘 → Locates (suc n) w f
      locates_skip h = record {
        lead = l.lead;
        degree = rw (weight_skip F n w h) l.degree;
        vanish = rw (weight_skip F n w h) (below_suc l.vanish (rw h (zero-mul F _)));
      }

      locates_take : w n ≢ 𝟘 → X n ≢ 𝟘 → Locates (suc n) w (link (X n) f)
      locates_take h z = record {
        lead = λ e. l.lead (simp (mix_at, shift_zero, one-mul, mul-zero, add-zero) at e);
        degree = rw (weight_take F n w h) (λ i k.
            mix_vanish F 𝟙 (X n) f (shift F f) i (l.degree i (omega arith)) (shift_vanish F f i (λ j e. l.degree j (omega arith))));
        vanish = rw (weight_take F n w h) (below_suc
            (λ p k. rw (ev-link (weight F n w) f (X n) (inv (X p)) l.degree, mul_left_comm, l.vanish p k) (mul-zero F _))
            (rw (ev-link (weight F n w) f (X n) (inv (X n)) l.degree, F.mul-inv (X n) z) (simp ring)));
      }

    -- every word has one
    pub locator_of : (n : ℕ) (w : ℕ → Element) → Nonzero F n X → (f : ℕ → Element) × Locates n w f
    locator_of zero w nz = (
      unit F,
      record {
        lead = λ e. F.one-ne-zero (sym (unit-zero F) ∙ e);
        degree = λ i h. unit_past F i (omega arith);
        vanish = λ p h. absurd (omega arith);
      },
    )
    locator_of (suc n) w nz = go (locator_of n w (λ p h. nz p (omega arith))) (F.same? (w n) 𝟘)
      where
        go : (f : ℕ → Element) × Locates n w f → Dec (w n ≡ 𝟘) → (f : ℕ → Element) × Locates (suc n) w f
        go (f, l) (yes h) = (f, locates_skip l h)
        go (f, l) (no h) = (link (X n) f, locates_take l h (nz n (omega arith)))
