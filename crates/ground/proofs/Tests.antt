-- Tests that antt computes, over the numbers below n and over the entries of a table, and the law that turns each into its rule.
-- Assumes nothing.
use mathlib.Core.Path.{◌≡◌, refl, ◌∙◌, subst, sym}
use mathlib.Core.Bool.{Bool, true, false, ◌&&◌}
use mathlib.Core.List.{List, [], ◌∷◌}
use mathlib.Core.Logic.{⊎_elim}
use Prim.Native.Nat.{ℕ, zero, suc, ◌+◌, ◌<◌}
use native.Mathlib.Nat.{add-zero, zero-add, add-suc, suc-add, le_of_suc-le-suc, not-suc-le-zero, eq-or-lt_of_le}
use lib.Dec.{T, eqb, eqb→eq}
use lib.ListN.{length, get_or}

pub both : (a b : Bool) → T (a && b) → T a × T b
both true b t = (tt, t)
both false b t = absurd t

pub is_true : (b : Bool) → T b → b ≡ true
is_true true t = refl
is_true false t = absurd t

-- the test passes at each number below n
abbrev pub all : ℕ → (ℕ → Bool) → Bool
all zero p = true
all (suc n) p = p n && all n p

pub all_at : (n : ℕ) (p : ℕ → Bool) → T (all n p) → (j : ℕ) → j < n → T (p j)
all_at zero p t j h = absurd (not-suc-le-zero h)
all_at (suc n) p t j h =
    ⊎_elim (λ (e : j ≡ n). subst (λ (x : ℕ). T (p x)) (sym e) (both (p n) (all n p) t).0)
    (λ l. all_at n p (both (p n) (all n p) t).1 j l) (eq-or-lt_of_le (le_of_suc-le-suc h))

pub all_equal : (n : ℕ) (f g : ℕ → ℕ) → T (all n (λ j. eqb (f j) (g j))) → (j : ℕ) → j < n → f j ≡ g j
all_equal n f g t j h = eqb→eq (f j) (g j) (all_at n (λ j. eqb (f j) (g j)) t j h)

-- the test passes at each entry of the table with its place, counted from i
abbrev pub every {ℓ} : {A : Type ℓ} → (ℕ → A → Bool) → ℕ → List A → Bool
every f i [] = true
every f i (x ∷ xs) = f i x && every f (suc i) xs

module _ {ℓ} {A : Type ℓ} (f : ℕ → A → Bool) (d : A) where
  from : (xs : List A) (i : ℕ) → T (every f i xs) → (k : ℕ) → k < length xs → T (f (i + k) (get_or xs k d))
  from [] i t k h = absurd (not-suc-le-zero h)
  from (x ∷ xs) i t zero h = subst (λ (m : ℕ). T (f m x)) (sym (add-zero i)) (both (f i x) (every f (suc i) xs) t).0
  from (x ∷ xs) i t (suc k) h =
      subst (λ (m : ℕ). T (f m (get_or xs k d))) (suc-add i k ∙ sym (add-suc i k))
      (from xs (suc i) (both (f i x) (every f (suc i) xs) t).1 k (le_of_suc-le-suc h))

  pub every_at : (xs : List A) → T (every f 0 xs) → (k : ℕ) → k < length xs → T (f k (get_or xs k d))
  every_at xs t k h = subst (λ (m : ℕ). T (f m (get_or xs k d))) (zero-add k) (from xs 0 t k h)
