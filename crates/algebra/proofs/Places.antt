-- Words of n places, functions that are read below n: how many places are zero, and how many are not.
-- Assumes nothing.
use mathlib.Core.Path.{◌≡◌}
use mathlib.Core.Logic.Dec
use mathlib.Core.Logic.{◌≢◌}
use Prim.Native.Nat.{ℕ, zero, suc, ◌≤◌, ◌<◌}
use Rattle.algebra.proofs.Fields.{Field2, zero-mul}
use Rattle.algebra.proofs.Counts.{count, count_nil, count_yes, count_no, count_mono, count_back}

abbrev pub Distinct : {A : Type 0} → ℕ → (ℕ → A) → Type 0
Distinct n X = (i j : ℕ) → i < j → j < n → X i ≢ X j

module _ (F : Field2) where
  open F use {Element, zero as 𝟘, mul as ◌⊗◌, same?}

  infixl 70 ◌⊗◌
  abbrev pub Nonzero : ℕ → (ℕ → Element) → Type 0
  Nonzero n X = (i : ℕ) → i < n → X i ≢ 𝟘

  abbrev pub Vanishing : ℕ → (ℕ → Element) → Type 0
  Vanishing n c = (i : ℕ) → i < n → c i ≡ 𝟘

  -- the number of places that are not zero
  pub weight : ℕ → (ℕ → Element) → ℕ
  weight n w = count n (λ p. Dec.not (same? (w p) 𝟘))

  pub weight_nil : (w : ℕ → Element) → weight zero w ≡ zero
  unfolding weight
  weight_nil w = count_nil _

  pub weight_skip : (n : ℕ) (w : ℕ → Element) → w n ≡ 𝟘 → weight (suc n) w ≡ weight n w
  unfolding weight
  weight_skip n w h = count_no _ n (λ k. k h)

  pub weight_take : (n : ℕ) (w : ℕ → Element) → w n ≢ 𝟘 → weight (suc n) w ≡ suc (weight n w)
  unfolding weight
  weight_take n w h = count_yes _ n h

  pub weight_mono : (n : ℕ) (v w : ℕ → Element) → ((p : ℕ) → p < n → w p ≡ 𝟘 → v p ≡ 𝟘) → weight n v ≤ weight n w
  unfolding weight
  weight_mono n v w h = count_mono _ _ n (λ p l k e. k (h p l e))

  pub weight_times : (n : ℕ) (w f : ℕ → Element) → weight n (λ p. w p ⊗ f p) ≤ weight n w
  weight_times n w f = weight_mono n _ w (λ p _ z. rw z (zero-mul F _))

  -- the number of places that are zero
  pub roots : ℕ → (ℕ → Element) → ℕ
  roots n f = count n (λ p. same? (f p) 𝟘)

  pub roots_nil : (f : ℕ → Element) → roots zero f ≡ zero
  unfolding roots
  roots_nil f = count_nil _

  pub roots_skip : (n : ℕ) (f : ℕ → Element) → f n ≢ 𝟘 → roots (suc n) f ≡ roots n f
  unfolding roots
  roots_skip n f h = count_no _ n h

  pub roots_take : (n : ℕ) (f : ℕ → Element) → f n ≡ 𝟘 → roots (suc n) f ≡ suc (roots n f)
  unfolding roots
  roots_take n f h = count_yes _ n h

  pub roots_mono : (n : ℕ) (f g : ℕ → Element) → ((p : ℕ) → p < n → f p ≡ 𝟘 → g p ≡ 𝟘) → roots n f ≤ roots n g
  unfolding roots
  roots_mono n f g h = count_mono _ _ n h

  -- where f vanishes at each place at which w does not
  module _ (n : ℕ) (w f : ℕ → Element) (h : (p : ℕ) → p < n → w p ≢ 𝟘 → f p ≡ 𝟘) where
    pub weight-roots : weight n w ≤ roots n f
    unfolding weight roots
    weight-roots = count_mono _ _ n h

    -- and f has no root to spare
    pub roots_exact : roots n f ≤ weight n w → (p : ℕ) → p < n → f p ≡ 𝟘 → w p ≢ 𝟘
    unfolding weight roots
    roots_exact = count_back _ _ n h
