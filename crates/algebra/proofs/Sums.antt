-- Sums of finitely many elements: f 0 + .. + f (n - 1).
-- Assumes nothing.
use mathlib.Core.Path.{◌≡◌, refl}
use Prim.Native.Nat.{ℕ, zero, suc, ◌<◌}
use native.Mathlib.Omega.{arith}
use Rattle.algebra.proofs.Fields.{Field2, ring, mul-add}

module _ (F : Field2) where
  open F use {Element, zero as 𝟘, add as ◌⊕◌, mul as ◌⊗◌}

  infixl 60 ◌⊕◌
  infixl 70 ◌⊗◌
  unfoldable pub sum : ℕ → (ℕ → Element) → Element
  sum zero f = 𝟘
  sum (suc n) f = sum n f ⊕ f n

  pub sum_nil : (f : ℕ → Element) → sum zero f ≡ 𝟘
  unfolding sum
  sum_nil f = refl

  pub sum-suc : (n : ℕ) (f : ℕ → Element) → sum (suc n) f ≡ sum n f ⊕ f n
  unfolding sum
  sum-suc n f = refl

  pub ruleset sums = (ring, sum_nil, sum-suc)

  pub sum-add : (n : ℕ) (f g : ℕ → Element) → sum n (λ i. f i ⊕ g i) ≡ sum n f ⊕ sum n g
  sum-add zero f g = simp sums
  sum-add (suc n) f g = simp (sum-add n f g, sums)

  pub sum_scale : (n : ℕ) (c : Element) (f : ℕ → Element) → sum n (λ i. c ⊗ f i) ≡ c ⊗ sum n f
  sum_scale zero c f = simp sums
  sum_scale (suc n) c f = simp (sum-suc, sum_scale n c f, mul-add)

  pub sum_cong : (n : ℕ) (f g : ℕ → Element) → ((i : ℕ) → i < n → f i ≡ g i) → sum n f ≡ sum n g
  sum_cong zero f g h = simp sum_nil
  sum_cong (suc n) f g h = simp (sum-suc, sum_cong n f g (λ i l. h i (omega arith)), h n (omega arith))

  pub sum-zero : (n : ℕ) (f : ℕ → Element) → ((i : ℕ) → i < n → f i ≡ 𝟘) → sum n f ≡ 𝟘
  sum-zero zero f h = sum_nil f
  sum-zero (suc n) f h = simp (sums, sum-zero n f (λ i l. h i (omega arith)), h n (omega arith))

  -- the first term apart
  pub sum_first : (n : ℕ) (f : ℕ → Element) → sum (suc n) f ≡ f zero ⊕ sum n (λ i. f (suc i))
  sum_first zero f = rw (sum-suc zero f) (simp sums)
  sum_first (suc n) f = rw (sum-suc (suc n) f, sum_first n f) (simp sums)
