-- Points moved on their way by less than half the least distance of their constellations (nearest/specs/Margins).
-- Assumes nothing.
use Rattle.std.specs.Prelude.{List, ℕ, ◌<◌, pos, ◌*ℤ◌, length, get_or}
use Rattle.points.specs.declared.Point.{Point}
use Rattle.points.specs.declared.Point.TheVariants.{At, Nothing}
use Rattle.points.specs.Constellations.{level_i, level_q}
use Rattle.nearest.specs.Margins.{Moved}

-- each point that came in, x, is so near to a point of a list, where two of its table are d apart, squared, or more
abbrev pub AllMoved : ℕ → List Point → List Point → Type 0
AllMoved d xs ps =
    (place : ℕ) → place < length ps → Moved d (level_i (get_or xs place Nothing)) (level_q (get_or xs place Nothing)) (get_or ps place Nothing)

-- a clean point, in sixty-fourths
abbrev pub fine : Point → Point
fine p = At (pos 64 *ℤ level_i p) (pos 64 *ℤ level_q p)
