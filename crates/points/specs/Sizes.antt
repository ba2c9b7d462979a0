-- What the sizes of its levels say of a point: a quick look, which no point passes that is none of its constellation (proofs/Legal.antt).
-- Levels go up to a most. They are odd, but for 8QAM, where they are even. Where n is odd there are holes: no point has both levels divisible by 3.
-- Assumes nothing.
use Rattle.std.specs.Prelude.{◌≡◌, cond, [], ◌∷◌, ℕ, ◌%◌, ◌≤◌, eqb, ℤ, nat_abs, get_or}

-- the largest size of a level of n bits
unfoldable pub most_of : ℕ → ℕ
most_of n = get_or (0 ∷ 0 ∷ 1 ∷ 2 ∷ 3 ∷ 5 ∷ 7 ∷ 11 ∷ 15 ∷ 23 ∷ 31 ∷ []) n 0

-- what is left of a level's size by 2
unfoldable pub odd_of : ℕ → ℕ
odd_of n = cond (eqb n 3) 0 1

-- the sizes of two levels are those of a point with so many bits
pub record Sized (n : ℕ) (i q : ℤ) : Type 0 where
  pub few : n ≤ 10
  pub low_i : nat_abs i ≤ most_of n
  pub low_q : nat_abs q ≤ most_of n
  pub odd_i : nat_abs i % 2 ≡ odd_of n
  pub odd_q : nat_abs q % 2 ≡ odd_of n
  pub no_hole : n % 2 ≡ 1 → nat_abs i % 3 ≡ 0 → nat_abs q % 3 ≡ 0 → ⊥
