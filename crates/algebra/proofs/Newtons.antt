-- The algorithm of Berlekamp and Massey on a series whose term 2 i + 1 is the square of its term i: by Newton's identities every second
-- discrepancy is zero, so that two terms are one step. Assumes nothing.
use mathlib.Core.Path.{◌≡◌, refl, sym, ◌∙◌, subst₂, fun_ext}
use mathlib.Core.Logic.{◌≢◌}
use Prim.Native.Nat.{ℕ, zero, suc, ◌+◌, ◌-◌, ◌≤◌, ◌<◌}
use native.Mathlib.Omega.{arith}
use native.Mathlib.Nat.{suc-add, add-suc}
use Rattle.algebra.proofs.Fields.{Field2, ring, zero-add, mul-zero, add_comm, add_self, add_self_left, factor_zero}
use Rattle.algebra.proofs.Counts.{below_suc}
use Rattle.algebra.proofs.Series.{conv, conv-zero, conv-suc, conv_last, conv_cong, conv_comm, conv_assoc, conv-shift, conv-mix, shift, shift_zero, shift_suc, mix, mix_at, unit, unit-zero}
use Rattle.algebra.proofs.Berlekamp.{Found, found_start, step_none, step_keep, step_grow}

module _ (F : Field2) where
  open F use {Element, zero as 𝟘, one as 𝟙, add as ◌⊕◌, mul as ◌⊗◌}

  infixl 60 ◌⊕◌
  infixl 70 ◌⊗◌
  -- f of x x
  spread : (ℕ → Element) → ℕ → Element
  spread f zero = f zero
  spread f (suc zero) = 𝟘
  spread f (suc (suc n)) = spread (λ i. f (suc i)) n

  spread-zero : (f : ℕ → Element) → spread f zero ≡ f zero
  unfolding spread
  spread-zero f = refl

  spread_one : (f : ℕ → Element) → spread f (suc zero) ≡ 𝟘
  unfolding spread
  spread_one f = refl

  spread-suc : (f : ℕ → Element) (n : ℕ) → spread f (suc (suc n)) ≡ spread (λ i. f (suc i)) n
  unfolding spread
  spread-suc f n = refl

  ruleset spreads = (ring, spread-zero, spread_one, spread-suc)

  spread_even : (f : ℕ → Element) (n : ℕ) → spread f (n + n) ≡ f n
  spread_even f zero = spread-zero f
  spread_even f (suc n) = simp (suc-add, add-suc, spread-suc, spread_even (λ i. f (suc i)) n)

  spread_odd : (f : ℕ → Element) (n : ℕ) → spread f (suc (n + n)) ≡ 𝟘
  spread_odd f zero = spread_one f
  spread_odd f (suc n) = simp (suc-add, add-suc, spread-suc, spread_odd (λ i. f (suc i)) n)

  spread_mix : (b d : Element) (f g : ℕ → Element) (n : ℕ) → spread (λ i. b ⊗ f i ⊕ d ⊗ g i) n ≡ b ⊗ spread f n ⊕ d ⊗ spread g n
  spread_mix b d f g zero = simp spread-zero
  spread_mix b d f g (suc zero) = simp spreads
  spread_mix b d f g (suc (suc n)) = simp (spread-suc, spread_mix b d (λ i. f (suc i)) (λ i. g (suc i)) n)

  spread_square : (f : ℕ → Element) (n : ℕ) → spread (λ i. f i ⊗ f i) n ≡ spread f n ⊗ spread f n
  spread_square f zero = simp spread-zero
  spread_square f (suc zero) = simp spreads
  spread_square f (suc (suc n)) = simp (spread-suc, spread_square (λ i. f (suc i)) n)

  -- the terms off the diagonal cancel
  conv_square : (f : ℕ → Element) (n : ℕ) → conv F f f n ≡ spread (λ i. f i ⊗ f i) n
  conv_square f zero = simp (conv-zero, spread-zero)
  conv_square f (suc zero) = rw conv-suc (simp (conv-zero, spreads))
  conv_square f (suc (suc n)) =
      rw (conv-suc, conv_last F (λ i. f (suc i)) f n, spread-suc, conv_square (λ i. f (suc i)) n) (simp ring)

  -- squaring is additive
  conv_squares : (f g : ℕ → Element) (n : ℕ) → conv F (λ i. f i ⊗ f i) (λ i. g i ⊗ g i) n ≡ conv F f g n ⊗ conv F f g n
  conv_squares f g zero = simp (conv-zero, ring)
  conv_squares f g (suc n) = simp (conv-suc, conv_squares (λ i. f (suc i)) g n, ring)

  -- a product with f of x x takes every second term of g
  conv-spread : (f g : ℕ → Element) (n : ℕ) → conv F (spread f) g (suc (n + n)) ≡ conv F f (λ i. g (suc (i + i))) n
  conv-spread f g zero = rw conv-suc (simp (conv-zero, spreads))
  conv-spread f g (suc n) =
      rw (suc-add, add-suc, conv-suc F (spread f), conv-suc F _ g (suc (n + n)), conv-suc F f)
      (simp (spreads, suc-add, add-suc) (rw (conv-spread (λ i. f (suc i)) g n)))

  -- the derivative of f
  pub der : (ℕ → Element) → ℕ → Element
  der f = spread (λ i. f (suc (i + i)))

  der_even : (f : ℕ → Element) (n : ℕ) → der f (n + n) ≡ f (suc (n + n))
  unfolding der
  der_even f n = spread_even _ n

  der_odd : (f : ℕ → Element) (n : ℕ) → der f (suc (n + n)) ≡ 𝟘
  unfolding der
  der_odd f n = spread_odd _ n

  der-mix : (b d : Element) (f g : ℕ → Element) (n : ℕ) → der (mix F b d f g) n ≡ mix F b d (der f) (der g) n
  unfolding der mix
  der-mix b d f g n = spread_mix b d _ _ n

  -- two places on
  der-shift-zero : (f : ℕ → Element) → der (shift F (shift F f)) zero ≡ 𝟘
  unfolding der shift
  der-shift-zero f = spread-zero _

  der-shift_one : (f : ℕ → Element) → der (shift F (shift F f)) (suc zero) ≡ 𝟘
  unfolding der
  der-shift_one f = spread_one _

  der-shift-suc : (f : ℕ → Element) (n : ℕ) → der (shift F (shift F f)) (suc (suc n)) ≡ der f n
  unfolding der
  der-shift-suc f n = simp (spread-suc, suc-add, add-suc, shift_suc)

  -- f meets Newton's identities on the first r terms of S
  abbrev pub Newton : (ℕ → Element) → ℕ → (ℕ → Element) → Type 0
  Newton S r f = (j : ℕ) → j < r → conv F f S j ≡ der f j

  -- f times its derivative
  conv-der : (f : ℕ → Element) (n : ℕ) → conv F f (der f) (suc (n + n)) ≡ der f n ⊗ der f n
  unfolding der
  conv-der f n = conv_comm F f _ _ ∙ conv-spread _ f n ∙ conv_square _ n ∙ spread_square _ n

  -- and without its first term
  conv_rest : (f : ℕ → Element) (n : ℕ) → conv F (λ i. f (suc i)) (der f) (n + n) ≡ der f n ⊗ der f n
  conv_rest f n = rw (conv-suc, der_odd, mul-zero, zero-add) at (conv-der f n)

  -- up to the term 2 m + 1, S squares as the syndromes of a binary word do
  abbrev pub Squares : ℕ → (ℕ → Element) → Type 0
  Squares m S = (i : ℕ) → i ≤ m → S (suc (i + i)) ≡ S i ⊗ S i

  conv_twice : (f S : ℕ → Element) (n : ℕ) → Squares n S → conv F f (conv F f S) (suc (n + n)) ≡ conv F f S n ⊗ conv F f S n
  conv_twice f S n squares =
      sym (conv_assoc F f f S _)
      ∙ conv_cong F _ _ S S _ (λ i _. conv_square f i) (λ i _. refl)
      ∙ conv-spread _ S n
      ∙ conv_cong F _ _ _ _ n (λ i _. refl) squares
      ∙ conv_squares f S n

  first_zero : {a b : Element} → a ⊕ b ≡ b → a ≡ 𝟘
  first_zero {a} {b} h = cc (add_self_left F b a, add_comm F a b, add_self F b)

  -- where Newton's identities hold up to the term 2 n, the next holds too
  newton_odd : (f S : ℕ → Element) (n : ℕ) → Squares n S → f zero ≢ 𝟘 → Newton S (suc (n + n)) f → conv F f S (suc (n + n)) ≡ 𝟘
  newton_odd f S n squares lead h =
      let rest = conv_cong F (λ i. f (suc i)) (λ i. f (suc i)) (conv F f S) (der f) (n + n) (λ i _. refl) (λ i l. h i (omega arith)) in
      factor_zero F (f zero) _ lead (first_zero {b = conv F (λ i. f (suc i)) (der f) (n + n)}
      (cc (rest, h n (omega arith), conv-suc F f (conv F f S) (n + n), conv_twice f S n squares, conv_rest f n)))

  -- what is found after m + m terms, and by how much the series fail Newton's identities
  pub record Paired (S : ℕ → Element) (m : ℕ) (locator T : ℕ → Element) (len : ℕ) (b : Element) : Type 0 where
    pub found : Found F S (m + m) locator T len b
    pub newton : Newton S (m + m) locator
    pub newton_saved : Newton S (m + m) T
    pub newton_next : conv F T S (m + m) ≡ der T (m + m) ⊕ b

  -- two places on, Newton's identities fail by what they failed before
  later : (g S : ℕ → Element) (r : ℕ) → Newton S r g → Newton S (suc (suc r)) (shift F (shift F g))
  later g S r h zero l = simp (conv-shift, shift_zero, der-shift-zero)
  later g S r h (suc zero) l = rw (der-shift_one, conv-shift, shift_suc, conv-shift) (shift_zero F _)
  later g S r h (suc (suc j)) l = simp (conv-shift, shift_suc, der-shift-suc) (h j (omega arith))

  later_next : (g S : ℕ → Element) (r : ℕ) {b : Element} → conv F g S r ≡ der g r ⊕ b
      → conv F (shift F (shift F g)) S (suc (suc r)) ≡ der (shift F (shift F g)) (suc (suc r)) ⊕ b
  later_next g S r h = simp (conv-shift, shift_suc, der-shift-suc) h

  module _ {S : ℕ → Element} {m : ℕ} (squares : Squares m S) where
    -- the second term of a step
    second : {f : ℕ → Element} (g : ℕ → Element) {len : ℕ} {b : Element} → Found F S (suc (m + m)) f (shift F g) len b
        → Newton S (suc (m + m)) f → Newton S (m + m) g → conv F g S (m + m) ≡ der g (m + m) ⊕ b
        → Paired S (suc m) f (shift F (shift F g)) len b
    second {f} g t h k e =
        let z = newton_odd f S m squares t.current.lead h in
        record {
          found = rw (suc-add, add-suc) (step_none F t z);
          newton = rw (suc-add, add-suc) (below_suc h (z ∙ sym (der_odd f m)));
          newton_saved = rw (suc-add, add-suc) (later g S _ k);
          newton_next = rw (suc-add, add-suc) (later_next g S _ e);
        }

  module _ {S : ℕ → Element} {m : ℕ} {locator T : ℕ → Element} {len : ℕ} {b : Element} (paired : Paired S m locator T len b) where
    open paired use {found, newton, newton_saved, newton_next}

    der_end : der locator (m + m) ≡ 𝟘
    der_end = (let l = found.within in der_even locator m ∙ found.current.degree _ (omega arith))

    module _ (squares : Squares m S) where
      -- no discrepancy
      pub paired_none : conv F locator S (m + m) ≡ 𝟘 → Paired S (suc m) locator (shift F (shift F T)) len b
      paired_none h = second squares T (step_none F found h) (below_suc newton (h ∙ sym der_end)) newton_saved newton_next

      module _ {d : Element} (missed : conv F locator S (m + m) ≡ d) where
        mix_newton : Newton S (suc (m + m)) (mix F b d locator T)
        mix_newton = below_suc
            (λ j l. simp (conv-mix, der-mix, mix_at, newton j l, newton_saved j l))
            (simp (conv-mix, der-mix, mix_at, missed, der_end, newton_next, ring))

        -- a discrepancy that the length allows
        pub paired_keep : m + m < len + len → Paired S (suc m) (mix F b d locator T) (shift F (shift F T)) len b
        paired_keep h = second squares T (step_keep F found missed h) mix_newton newton_saved newton_next

        -- a discrepancy that asks for a greater length
        pub paired_grow : len + len ≤ m + m → d ≢ 𝟘
            → Paired S (suc m) (mix F b d locator T) (shift F (shift F locator)) (suc (m + m) - len) d
        paired_grow h z = second squares locator (step_grow F found missed h z) mix_newton newton (rw (der_end, zero-add) missed)

    -- only the values of the series matter
    pub paired_ext : {locator' T' : ℕ → Element} → ((i : ℕ) → locator i ≡ locator' i) → ((i : ℕ) → T i ≡ T' i) → Paired S m locator' T' len b
    paired_ext h k = subst₂ (λ f g. Paired S m f g len b) (fun_ext h) (fun_ext k) paired

  -- before the first term: the locator 1, and T = x
  pub paired_start : (S : ℕ → Element) → Paired S zero (unit F) (shift F (unit F)) zero 𝟙
  paired_start S = record {
    found = found_start F S;
    newton = λ j l. absurd (omega arith);
    newton_saved = λ j l. absurd (omega arith);
    newton_next = rw (conv-shift, shift_zero, der_even _ zero, shift_suc, unit-zero) (sym (add_self F 𝟙));
  }
