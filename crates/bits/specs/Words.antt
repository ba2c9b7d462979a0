-- Words: lists of elements 0 or 1, one bit each (document 01, "Bits, lengths and grids").
-- Assumes nothing.
use Rattle.std.specs.Prelude.{cond, List, [], ◌∷◌, map, ℕ, zero, suc, ◌+◌, ◌/◌, ◌%◌, ◌^◌, ◌<◌, eqb, ltb, length}
use Rattle.ground.specs.First.{first_in}

-- every element is 0 or 1
abbrev pub Bits : List ℕ → Type 0
Bits [] = Unit {0}
Bits (b ∷ bs) = (b < 2) × Bits bs

-- the index of the first element that is neither 0 nor 1; the length where there is none
abbrev pub first_bad : List ℕ → ℕ
first_bad word = first_in (ltb 1) word

-- each element's lowest binary digit
abbrev pub lowest : List ℕ → List ℕ
lowest word = map (λ (b : ℕ). b % 2) word

-- the r low digits of x, the highest first
unfoldable pub digits : ℕ → ℕ → List ℕ
digits zero x = []
digits (suc r) x = x / 2 ^ r % 2 ∷ digits r x

-- the number of places where two words differ; where one ends, the other's further places
unfoldable pub differ : List ℕ → List ℕ → ℕ
differ [] ws = length ws
differ (v ∷ vs) [] = suc (length vs)
differ (v ∷ vs) (w ∷ ws) = cond (eqb v w) 0 1 + differ vs ws
