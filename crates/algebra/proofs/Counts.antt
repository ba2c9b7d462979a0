-- The numbers below n that have a property: how many there are.
-- Assumes nothing.
use mathlib.Core.Path.{◌≡◌, refl}
use Prim.Native.Nat.{ℕ, zero, suc, ◌≤◌, ◌<◌}
use native.Mathlib.Omega.{arith}
use native.Mathlib.Decide.{dec_lt}

-- what holds below n and at n holds below n + 1
pub below_suc : {P : ℕ → Type 0} {n : ℕ} → ((i : ℕ) → i < n → P i) → P n → (i : ℕ) → i < suc n → P i
below_suc {P} {n} h p i l = go (dec_lt i n)
  where
    go : Dec (i < n) → P i
    go (yes k) = h i k
    go (no k) = let e : i ≡ n = omega arith in rw e p

-- one more where A holds
tally : {A : Type 0} → Dec A → ℕ → ℕ
tally (yes a) k = suc k
tally (no a) k = k

tally_yes : {A : Type 0} (d : Dec A) (k : ℕ) → A → tally d k ≡ suc k
unfolding tally
tally_yes (yes a) k h = refl
tally_yes (no a) k h = absurd (a h)

tally_no : {A : Type 0} (d : Dec A) (k : ℕ) → ¬ A → tally d k ≡ k
unfolding tally
tally_no (yes a) k h = absurd (h a)
tally_no (no a) k h = refl

tally_mono : {A B : Type 0} (d : Dec A) (e : Dec B) {k m : ℕ} → (A → B) → k ≤ m → tally d k ≤ tally e m
unfolding tally
tally_mono (yes a) (yes b) h l = omega arith
tally_mono (yes a) (no b) h l = absurd (b (h a))
tally_mono (no a) (yes b) h l = omega arith
tally_mono (no a) (no b) h l = l

tally_back : {A B : Type 0} (d : Dec A) (e : Dec B) {k m : ℕ} → (A → B) → k ≤ m → tally e m ≤ tally d k → (m ≤ k) × (B → A)
unfolding tally
tally_back (yes a) (yes b) h l g = (omega arith, λ _. a)
tally_back (yes a) (no b) h l g = absurd (b (h a))
tally_back (no a) (yes b) h l g = absurd (omega arith)
tally_back (no a) (no b) h l g = (g, λ y. absurd (b y))

-- the number of p below n that have the property P
pub count : (n : ℕ) {P : ℕ → Type 0} → ((p : ℕ) → Dec (P p)) → ℕ
count zero d = zero
count (suc n) d = tally (d n) (count n d)

module _ {P : ℕ → Type 0} (P? : (p : ℕ) → Dec (P p)) where
  pub count_nil : count zero P? ≡ zero
  unfolding count
  count_nil = refl

  pub count_yes : (n : ℕ) → P n → count (suc n) P? ≡ suc (count n P?)
  unfolding count
  count_yes n = tally_yes (P? n) (count n P?)

  pub count_no : (n : ℕ) → ¬ P n → count (suc n) P? ≡ count n P?
  unfolding count
  count_no n = tally_no (P? n) (count n P?)

module _ {P Q : ℕ → Type 0} (P? : (p : ℕ) → Dec (P p)) (Q? : (p : ℕ) → Dec (Q p)) where
  pub count_mono : (n : ℕ) → ((p : ℕ) → p < n → P p → Q p) → count n P? ≤ count n Q?
  unfolding count
  count_mono zero h = omega arith
  count_mono (suc n) h = tally_mono (P? n) (Q? n) (h n (omega arith)) (count_mono n (λ p l. h p (omega arith)))

  -- of two properties that equally many have, where one implies the other, each implies the other
  pub count_back : (n : ℕ) → ((p : ℕ) → p < n → P p → Q p) → count n Q? ≤ count n P? → (p : ℕ) → p < n → Q p → P p
  unfolding count
  count_back zero h g = λ p l. absurd (omega arith)
  count_back (suc n) h g =
      let k : (p : ℕ) → p < n → P p → Q p = λ p l. h p (omega arith) in
      let r = tally_back (P? n) (Q? n) (h n (omega arith)) (count_mono n k) g in
      below_suc (count_back n k r.0) r.1
