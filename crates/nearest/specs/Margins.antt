-- How far a point may be moved without another decision: by less than half the least distance between two points of its table.
-- Distances are squared, so that no root is taken. Assumes nothing.
use Rattle.std.specs.Prelude.{◌≡◌, ◌≢◌, ℕ, ◌+◌, ◌*◌, ◌<◌, ◌≤◌, List, ℤ, ◌-ℤ◌, length, get_or}
use Rattle.points.specs.declared.Point.{Point}
use Rattle.points.specs.declared.Point.TheVariants.{Nothing}
use Rattle.points.specs.Constellations.{level_i, level_q}
use Rattle.points.specs.Rules.{square}
use Rattle.nearest.specs.Nearest.{far}

-- the squared distance between two points, in levels
unfoldable pub apart : Point → Point → ℕ
apart p r = square (level_i p -ℤ level_i r) + square (level_q p -ℤ level_q r)

abbrev pub apart_at : List Point → ℕ → ℕ → ℕ
apart_at ps k l = apart (get_or ps k Nothing) (get_or ps l Nothing)

-- d is the least squared distance between two points of a table: no two are nearer to each other, and some two are so far apart
pub record Spaced (ps : List Point) (d : ℕ) : Type 0 where
  pub least : (k l : ℕ) → k < length ps → l < length ps → k ≢ l → d ≤ apart_at ps k l
  pub one : ℕ
  pub other : ℕ
  pub one_there : one < length ps
  pub other_there : other < length ps
  pub two : one ≢ other
  pub reached : apart_at ps one other ≡ d

-- (i, q) is less than half of that from a point: twice its distance, in sixty-fourths, is less than 64 times the least
abbrev pub Moved : ℕ → ℤ → ℤ → Point → Type 0
Moved d i q p = 4 * far i q p < 4096 * d
