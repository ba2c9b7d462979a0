-- Recurrences that generate the first terms of a series, and Massey's bound on their lengths.
-- Assumes nothing.
use mathlib.Core.Path.{◌≡◌, refl, sym, ◌∙◌}
use mathlib.Core.Logic.{◌≢◌}
use Prim.Native.Nat.{ℕ, zero, suc, ◌+◌, ◌≤◌, ◌<◌}
use native.Mathlib.Omega.{arith}
use native.Mathlib.Decide.{dec_lt, dec_le}
use Rattle.algebra.proofs.Fields.{Field2, add-zero, zero-mul, mul-zero, factor_zero}
use Rattle.algebra.proofs.Counts.{below_suc}
use Rattle.algebra.proofs.Series.{Degree, conv, conv-zero, conv-suc, conv_cong, conv_comm, conv_assoc, conv_vanish}

module _ (F : Field2) where
  open F use {Element, zero as 𝟘, mul as ◌⊗◌}

  infixl 70 ◌⊗◌
  -- f of degree at most len gives each term of S from len to r - 1 by those before it
  pub record Generates (S : ℕ → Element) (r : ℕ) (f : ℕ → Element) (len : ℕ) : Type 0 where
    pub lead : f zero ≢ 𝟘
    pub degree : Degree F len f
    pub vanish : (i : ℕ) → i < r → len ≤ i → conv F f S i ≡ 𝟘

  module _ {S f : ℕ → Element} {r len : ℕ} where
    pub generates_less : Generates S (suc r) f len → Generates S r f len
    generates_less g = record { lead = g.lead; degree = g.degree; vanish = λ i l. g.vanish i (omega arith) }

    pub generates_more : Generates S r f len → conv F f S r ≡ 𝟘 → Generates S (suc r) f len
    generates_more g h = record { lead = g.lead; degree = g.degree; vanish = below_suc g.vanish (λ _. h) }

  -- where f is of degree len and g has len zeros before the place r, the product has only its first term
  conv_first : (f g : ℕ → Element) (r len : ℕ) → Degree F len f → ((i : ℕ) → i < r → r ≤ i + len → g i ≡ 𝟘) → conv F f g r ≡ f zero ⊗ g r
  conv_first f g zero len hf hg = conv-zero F f g
  conv_first f g (suc n) len hf hg =
      rw (conv-suc, conv_vanish F (λ i. f (suc i)) g n (λ i j e. go i j e (dec_lt len (suc i)))) (add-zero F _)
    where
      go : (i j : ℕ) → i + j ≡ n → Dec (len < suc i) → f (suc i) ⊗ g j ≡ 𝟘
      go i j e (yes p) = rw (hf (suc i) p) (zero-mul F _)
      go i j e (no p) = rw (hg j (omega arith) (omega arith)) (mul-zero F _)

  swap : (f g h : ℕ → Element) (n : ℕ) → conv F f (conv F g h) n ≡ conv F g (conv F f h) n
  swap f g h n = sym (conv_assoc F f g h n) ∙ conv_cong F _ _ h h n (λ i _. conv_comm F f g i) (λ i _. refl) ∙ conv_assoc F g f h n

  module _ {S f f' : ℕ → Element} {r len len' : ℕ} (g : Generates S r f len) where
    agree : Generates S r f' len' → len + len' ≤ r → f' zero ⊗ conv F f S r ≡ f zero ⊗ conv F f' S r
    agree g' h =
        sym (conv_first f' (conv F f S) r len' g'.degree (λ i l k. g.vanish i l (omega arith)))
        ∙ swap f' f S r
        ∙ conv_first f (conv F f' S) r len g.degree (λ i l k. g'.vanish i l (omega arith))

    -- where f misses the term r, what generates it too is long
    pub massey_length : conv F f S r ≢ 𝟘 → Generates S (suc r) f' len' → suc r ≤ len + len'
    massey_length d g' = go (dec_le (len + len') r)
      where
        go : Dec (len + len' ≤ r) → suc r ≤ len + len'
        go (no k) = omega arith
        go (yes k) = absurd (d (factor_zero F (f' zero) _ g'.lead
            (agree (generates_less g') k ∙ (rw (g'.vanish r (omega arith) (omega arith)) (mul-zero F _)))))
