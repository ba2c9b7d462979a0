-- The nearest point of a table, to what came in: (i, q), in sixty-fourths of a level (document 02, item 1). Once over any table: a list of points, each at its
-- label's place.
-- Assumes nothing.
use Rattle.std.specs.Prelude.{ℕ, ◌+◌, ◌<◌, ◌≤◌, min, List, [], ◌∷◌, eqb, ℤ, pos, ◌-ℤ◌, ◌*ℤ◌, length, get_or}
use Rattle.ground.specs.First.{first_in}
use Rattle.points.specs.declared.Point.{Point}
use Rattle.points.specs.declared.Point.TheVariants.{Nothing}
use Rattle.points.specs.Constellations.{level_i, level_q}
use Rattle.points.specs.Rules.{square}

-- the squared distance from (i, q) to a point
unfoldable pub far : ℤ → ℤ → Point → ℕ
far i q p = square (pos 64 *ℤ level_i p -ℤ i) + square (pos 64 *ℤ level_q p -ℤ q)

-- the least squared distance to the points of a table: 0 where it has none
unfoldable pub least_far : List Point → ℤ → ℤ → ℕ
least_far [] i q = 0
least_far (p ∷ []) i q = far i q p
least_far (p ∷ (r ∷ ps)) i q = min (far i q p) (least_far (r ∷ ps) i q)

-- the lowest label at that distance, and its point
unfoldable pub nearest_label : List Point → ℤ → ℤ → ℕ
nearest_label ps i q = first_in (λ p. eqb (far i q p) (least_far ps i q)) ps

unfoldable pub nearest : List Point → ℤ → ℤ → Point
nearest ps i q = get_or ps (nearest_label ps i q) Nothing

-- ---- its two laws, which leave one label (proofs/Distances)

abbrev pub far_at : List Point → ℤ → ℤ → ℕ → ℕ
far_at ps i q l = far i q (get_or ps l Nothing)

pub record Nearest (ps : List Point) (i q : ℤ) (l : ℕ) : Type 0 where
  pub there : l < length ps
  pub least : (k : ℕ) → k < length ps → far_at ps i q l ≤ far_at ps i q k
  pub lowest : (k : ℕ) → k < l → far_at ps i q l < far_at ps i q k
