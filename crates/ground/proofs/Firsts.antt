-- The first element that a test finds: it and those before, and the turns of a loop that looks for it; and the lists of numbers.
-- Assumes nothing.
use mathlib.Core.Path.{◌≡◌, refl, sym, ap, ◌∙◌}
use mathlib.Core.Bool.{Bool, true, false, cond, true≢false}
use mathlib.Core.List.{List, [], ◌∷◌, ◌++◌}
use Prim.Native.Nat.{ℕ, zero, suc, ◌+◌, ◌≤◌, ◌<◌}
use native.Mathlib.Omega.{arith}
use lib.ListN.{length, get_or}
use Rattle.ground.specs.First.{first_in, up_from}

module _ {A : Type 0} (test : A → Bool) (d : A) where
  -- the first is found at k, or none is and k is the length
  pub record First (xs : List A) (k : ℕ) : Type 0 where
    pub most : k ≤ length xs
    pub before : (i : ℕ) → i < k → test (get_or xs i d) ≡ false
    pub there : k < length xs → test (get_or xs k d) ≡ true

  pub first : (xs : List A) → First xs (first_in test xs)
  unfolding first_in
  first [] = record { most = omega arith; before = λ i h. absurd (omega arith); there = λ h. absurd (omega arith) }
  first (x ∷ xs) = by (test x) refl (first xs)
    where
      k : ℕ
      k = first_in test xs

      past : test x ≡ false → First xs k → (i : ℕ) → i < suc k → test (get_or (x ∷ xs) i d) ≡ false
      past e rest zero h = e
      past e rest (suc i) h = rest.before i (omega arith)

      by : (found : Bool) → test x ≡ found → First xs k → First (x ∷ xs) (cond found 0 (suc k))
      by true e rest = record { most = omega arith; before = λ i h. absurd (omega arith); there = λ h. e }
      by false e rest = record { most = omega (arith, rest.most); before = past e rest; there = λ h. rest.there (omega arith) }

  module _ (xs : List A) where
    -- where none is found it is the length
    pub first_none : ((i : ℕ) → i < length xs → test (get_or xs i d) ≡ false) → first_in test xs ≡ length xs
    first_none each =
        let past : first_in test xs < length xs → ⊥ = λ h. true≢false (sym ((first xs).there h) ∙ each _ h) in
        omega (arith, (first xs).most)

    -- a loop that has found none before i finds the first there, goes on, or ends
    module _ (i : ℕ) (none : i ≤ first_in test xs) where
      pub first_here : test (get_or xs i d) ≡ true → i ≡ first_in test xs
      first_here e =
          let past : i < first_in test xs → ⊥ = λ h. true≢false (sym e ∙ (first xs).before i h) in
          omega arith

      pub first_later : i < length xs → test (get_or xs i d) ≡ false → i + 1 ≤ first_in test xs
      first_later l e =
          let past : first_in test xs ≡ i → ⊥ = λ h. true≢false (sym ((first xs).there (omega arith)) ∙ ap (λ (j : ℕ). test (get_or xs j d)) h ∙ e) in
          omega arith

      pub first_end : length xs ≤ i → i ≡ first_in test xs
      first_end l = omega (arith, (first xs).most)

-- ---- two lists, one behind the other

module _ {A : Type 0} (test : A → Bool) where
  -- it is in the first
  pub first_within : (xs ys : List A) → first_in test xs < length xs → first_in test (xs ++ ys) ≡ first_in test xs
  unfolding first_in
  first_within [] ys h = absurd (omega arith)
  first_within (x ∷ xs) ys h = by (test x) _ _ _ h (first_within xs ys)
    where
      by : (found : Bool) (k m n : ℕ) → cond found 0 (suc k) < suc n → (k < n → m ≡ k) → cond found 0 (suc m) ≡ cond found 0 (suc k)
      by true k m n h rest = refl
      by false k m n h rest = ap suc (rest (omega arith))

  -- the first has none
  pub first_behind : (xs ys : List A) → first_in test xs ≡ length xs → first_in test (xs ++ ys) ≡ length xs + first_in test ys
  unfolding first_in
  first_behind [] ys h = omega arith
  first_behind (x ∷ xs) ys h = by (test x) _ _ _ _ h (first_behind xs ys)
    where
      by : (found : Bool) (k m n l : ℕ) → cond found 0 (suc k) ≡ suc n → (k ≡ n → m ≡ n + l) → cond found 0 (suc m) ≡ suc n + l
      by true k m n l h rest = absurd (omega arith)
      by false k m n l h rest = let m = rest (omega arith) in omega arith

-- ---- the numbers k, k + 1 and so on

pub length_up : (k n : ℕ) → length (up_from k n) ≡ n
unfolding up_from
length_up k zero = refl
length_up k (suc n) = ap suc (length_up (suc k) n)

pub up_at : (k n i : ℕ) → i < n → get_or (up_from k n) i 0 ≡ k + i
unfolding up_from
up_at k zero i h = absurd (omega arith)
up_at k (suc n) zero h = omega arith
up_at k (suc n) (suc i) h = omega (arith, up_at (suc k) n i (omega arith))
