-- Power series, functions from numbers to the field, and their product.
-- Assumes nothing.
use mathlib.Core.Path.{◌≡◌, refl, ◌∙◌}
use Prim.Native.Nat.{ℕ, zero, suc, ◌+◌, ◌-◌, ◌≤◌, ◌<◌}
use native.Mathlib.Omega.{arith}
use native.Mathlib.Nat.{suc-sub-suc, sub-zero}
use Rattle.algebra.proofs.Fields.{Field2, ring, add_assoc, add_comm, mul_comm, zero-add, zero-mul}
use Rattle.algebra.proofs.Sums.{sum, sums, sum-suc, sum_first, sum-add, sum_scale}

module _ (F : Field2) where
  open F use {Element, zero as 𝟘, one as 𝟙, add as ◌⊕◌, mul as ◌⊗◌}

  infixl 60 ◌⊕◌
  infixl 70 ◌⊗◌
  -- f is a polynomial of degree at most d
  abbrev pub Degree : ℕ → (ℕ → Element) → Type 0
  Degree d f = (i : ℕ) → d < i → f i ≡ 𝟘

  -- the coefficient n of f g
  unfoldable pub conv : (ℕ → Element) → (ℕ → Element) → ℕ → Element
  conv f g zero = f zero ⊗ g zero
  conv f g (suc n) = f zero ⊗ g (suc n) ⊕ conv (λ i. f (suc i)) g n

  pub conv-zero : (f g : ℕ → Element) → conv f g zero ≡ f zero ⊗ g zero
  unfolding conv
  conv-zero f g = refl

  pub conv-suc : (f g : ℕ → Element) (n : ℕ) → conv f g (suc n) ≡ f zero ⊗ g (suc n) ⊕ conv (λ i. f (suc i)) g n
  unfolding conv
  conv-suc f g n = refl

  ruleset convs = (ring, conv-zero, conv-suc)

  -- as code computes it
  pub conv-sum : (f g : ℕ → Element) (n : ℕ) → conv f g n ≡ sum F (suc n) (λ j. f j ⊗ g (n - j))
  conv-sum f g zero = rw (sum-suc F zero _) (simp (conv-zero, sums))
  conv-sum f g (suc n) =
      rw (conv-suc, conv-sum (λ i. f (suc i)) g n, sum_first F (suc n) (λ j. f j ⊗ g (suc n - j))) (simp (suc-sub-suc, sub-zero))

  pub conv_cong : (f f' g g' : ℕ → Element) (n : ℕ) → ((i : ℕ) → i ≤ n → f i ≡ f' i) → ((i : ℕ) → i ≤ n → g i ≡ g' i)
      → conv f g n ≡ conv f' g' n
  conv_cong f f' g g' zero h k = simp (conv-zero, h zero (omega arith), k zero (omega arith))
  conv_cong f f' g g' (suc n) h k =
      simp (
        conv-suc,
        h zero (omega arith),
        k (suc n) (omega arith),
        conv_cong (λ i. f (suc i)) (λ i. f' (suc i)) g g' n (λ i l. h (suc i) (omega arith)) (λ i l. k i (omega arith)),
      )

  -- a product all of whose terms vanish
  pub conv_vanish : (f g : ℕ → Element) (n : ℕ) → ((i j : ℕ) → i + j ≡ n → f i ⊗ g j ≡ 𝟘) → conv f g n ≡ 𝟘
  conv_vanish f g zero h = conv-zero f g ∙ h zero zero (omega arith)
  conv_vanish f g (suc n) h =
      simp (conv-suc, h zero (suc n) (omega arith), conv_vanish (λ i. f (suc i)) g n (λ i j e. h (suc i) j (omega arith)), zero-add)

  conv-add : (f f' g : ℕ → Element) (n : ℕ) → conv (λ i. f i ⊕ f' i) g n ≡ conv f g n ⊕ conv f' g n
  conv-add f f' g zero = simp convs
  conv-add f f' g (suc n) = simp (conv-suc, conv-add (λ i. f (suc i)) (λ i. f' (suc i)) g n, ring)

  conv_scale : (c : Element) (f g : ℕ → Element) (n : ℕ) → conv (λ i. c ⊗ f i) g n ≡ c ⊗ conv f g n
  conv_scale c f g zero = simp convs
  conv_scale c f g (suc n) = simp (conv-suc, conv_scale c (λ i. f (suc i)) g n, ring)

  -- the last term apart
  pub conv_last : (f g : ℕ → Element) (n : ℕ) → conv f g (suc n) ≡ conv f (λ i. g (suc i)) n ⊕ f (suc n) ⊗ g zero
  conv_last f g zero = rw (conv-suc f g zero) (simp convs)
  conv_last f g (suc n) = rw (conv-suc f g (suc n), conv-suc f _ n, conv_last (λ i. f (suc i)) g n, add_assoc)

  pub conv_comm : (f g : ℕ → Element) (n : ℕ) → conv f g n ≡ conv g f n
  conv_comm f g zero = simp convs
  conv_comm f g (suc n) = rw (conv-suc f g n, conv_comm (λ i. f (suc i)) g n, conv_last g f n) (simp (mul_comm, add_comm))

  pub conv_assoc : (f g h : ℕ → Element) (n : ℕ) → conv (conv f g) h n ≡ conv f (conv g h) n
  conv_assoc f g h zero = simp convs
  conv_assoc f g h (suc n) = simp (conv-zero, conv-suc, conv-add, conv_scale) (rw (conv_assoc (λ i. f (suc i)) g h n) (simp ring))

  -- a product with a sum of m series
  pub conv_sums : (f : ℕ → Element) (m : ℕ) (g : ℕ → ℕ → Element) (n : ℕ)
      → conv f (λ i. sum F m (λ l. g l i)) n ≡ sum F m (λ l. conv f (g l) n)
  conv_sums f m g zero = simp (conv-zero, sum_scale)
  conv_sums f m g (suc n) = simp (conv-suc, conv_sums (λ i. f (suc i)) m g n, sum_scale, sum-add)

  -- x f
  unfoldable pub shift : (ℕ → Element) → ℕ → Element
  shift f zero = 𝟘
  shift f (suc n) = f n

  pub shift_zero : (f : ℕ → Element) → shift f zero ≡ 𝟘
  unfolding shift
  shift_zero f = refl

  pub shift_suc : (f : ℕ → Element) (n : ℕ) → shift f (suc n) ≡ f n
  unfolding shift
  shift_suc f n = refl

  -- x f vanishes where f does one place before
  pub shift_vanish : (f : ℕ → Element) (i : ℕ) → ((j : ℕ) → i ≡ suc j → f j ≡ 𝟘) → shift f i ≡ 𝟘
  shift_vanish f zero h = shift_zero f
  shift_vanish f (suc i) h = shift_suc f i ∙ h i refl

  pub conv-shift : (f g : ℕ → Element) (n : ℕ) → conv (shift f) g n ≡ shift (conv f g) n
  conv-shift f g zero = simp (convs, shift_zero)
  conv-shift f g (suc n) = simp (conv-suc, shift_zero, shift_suc, zero-mul, zero-add)

  -- b f + d g
  unfoldable pub mix : Element → Element → (ℕ → Element) → (ℕ → Element) → ℕ → Element
  mix b d f g i = b ⊗ f i ⊕ d ⊗ g i

  pub mix_at : (b d : Element) (f g : ℕ → Element) (i : ℕ) → mix b d f g i ≡ b ⊗ f i ⊕ d ⊗ g i
  unfolding mix
  mix_at b d f g i = refl

  pub mix_vanish : (b d : Element) (f g : ℕ → Element) (i : ℕ) → f i ≡ 𝟘 → g i ≡ 𝟘 → mix b d f g i ≡ 𝟘
  mix_vanish b d f g i h k = simp (mix_at, h, k, ring)

  pub conv-mix : (b d : Element) (f g h : ℕ → Element) (n : ℕ) → conv (mix b d f g) h n ≡ mix b d (conv f h) (conv g h) n
  unfolding mix
  conv-mix b d f g h n = simp (conv-add, conv_scale)

  -- the series 1
  unfoldable pub unit : ℕ → Element
  unit zero = 𝟙
  unit (suc i) = 𝟘

  pub unit-zero : unit zero ≡ 𝟙
  unfolding unit
  unit-zero = refl

  pub unit_past : Degree zero unit
  unfolding unit
  unit_past zero l = absurd (omega arith)
  unit_past (suc i) l = refl
