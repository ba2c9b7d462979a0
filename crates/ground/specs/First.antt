-- Looking through a list for what a test finds, and the lists of numbers.
-- Assumes nothing.
use Rattle.std.specs.Prelude.{Bool, cond, List, [], ◌∷◌, ℕ, zero, suc}

-- the place of the first element that a test finds; the length where there is none
unfoldable pub first_in : {A : Type 0} → (A → Bool) → List A → ℕ
first_in test [] = 0
first_in test (x ∷ xs) = cond (test x) 0 (suc (first_in test xs))

-- k, k + 1 and so on, n numbers
unfoldable pub up_from : ℕ → ℕ → List ℕ
up_from k zero = []
up_from k (suc n) = k ∷ up_from (suc k) n
