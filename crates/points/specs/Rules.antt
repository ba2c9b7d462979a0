-- The words in which document 01's rules for the tables of Annex B ("Payload B on the wire") are stated (proofs/Rules.antt).
use Rattle.std.specs.Prelude.{ℕ, ◌+◌, ◌*◌, max, Bool, true, cond, ◌&&◌, List, [], ◌∷◌, ◌++◌, map, eqb, ℤ, nat_abs, ◌-ℤ◌, get_or}
use Rattle.points.specs.declared.Point.{Point}
use Rattle.points.specs.Constellations.{tables, level_i, level_q}

-- the labels that the table of n bits prints: the left column, then the right
unfoldable pub printed : ℕ → List ℕ
printed n = map (λ r. r.0) (get_or tables n []) ++ map (λ r. r.3) (get_or tables n [])

-- ---- the sums of squares

unfoldable pub square : ℤ → ℕ
square x = nat_abs x * nat_abs x

-- the sum of I·I + Q·Q over the points
unfoldable pub squares : List Point → ℕ
squares [] = 0
squares (p ∷ ps) = square (level_i p) + square (level_q p) + squares ps

-- what the sum is 2^n times of, for n from 0: there is no point of 0 or 1 bits
unfoldable pub factors : List ℕ
factors = 0 ∷ 0 ∷ 2 ∷ 6 ∷ 10 ∷ 24 ∷ 42 ∷ 96 ∷ 170 ∷ 384 ∷ 682 ∷ []

-- ---- 8QAM's walk round the square

unfoldable pub walk : List ℕ
walk = 0b000 ∷ 0b001 ∷ 0b011 ∷ 0b010 ∷ 0b110 ∷ 0b111 ∷ 0b101 ∷ 0b100 ∷ []

-- on the border of the square of side 4 about (0, 0)
unfoldable pub border : Point → Bool
border p = eqb (max (nat_abs (level_i p)) (nat_abs (level_q p))) 2

-- two points on the border that are 2 apart in one level and the same in the other
unfoldable pub beside : Point → Point → Bool
beside p r = border p && border r && eqb (nat_abs (level_i p -ℤ level_i r) + nat_abs (level_q p -ℤ level_q r)) 2

-- each point is beside the next, and the last one beside p
unfoldable pub round : Point → List Point → Bool
round p [] = true
round p (r ∷ []) = beside r p
round p (r ∷ (s ∷ ps)) = beside r s && round p (s ∷ ps)

-- how often x stands in a list
unfoldable pub times : ℕ → List ℕ → ℕ
times x [] = 0
times x (y ∷ ys) = cond (eqb y x) 1 0 + times x ys
