-- What is known of a constellation by its stretches (proofs/Cells shows it of each of the nine).
-- Assumes nothing.
use mathlib.Core.Path.{◌≡◌}
use mathlib.Core.Bool.{false, cond}
use Prim.Native.Nat.{ℕ, ◌-◌, ◌/◌, ◌%◌, ◌^◌, ◌<◌, ◌≤◌}
use lib.Dec.{eqb}
use lib.ListN.{length}
use Rattle.points.specs.declared.Point.TheVariants.{At}
use Rattle.points.specs.Constellations.{points, point_of}
use Rattle.points.specs.Lent.{read_in, our_quadrants}
use Rattle.nearest.specs.Axes.{width_of, level_in, lines_of, is_hole}

-- the label that two stretches are read as
unfoldable pub label_for : ℕ → ℕ → ℕ → ℕ
label_for n j k = read_in our_quadrants n (level_in (width_of n) j) (level_in (width_of n) k)

-- two stretches at which a point can stand: where n is odd, not at a hole
pub record Solid (n j k : ℕ) : Type 0 where
  pub low_j : j < width_of n
  pub low_k : k < width_of n
  pub no_hole : n % 2 ≡ 1 → is_hole j k ≡ false

-- the point of a label stands at two stretches
pub record Stands (n l j k : ℕ) : Type 0 where
  pub solid : Solid n j k
  pub there : point_of n l ≡ At (level_in (width_of n) j) (level_in (width_of n) k)

-- of the stretches at a line, that to which it goes in a full square, and the other
abbrev pub towards : ℕ → ℕ → ℕ
towards n j = cond (eqb (lines_of n / 2 ^ j % 2) 1) (j - 1) j

abbrev pub away : ℕ → ℕ → ℕ
away n j = cond (eqb (lines_of n / 2 ^ j % 2) 1) j (j - 1)

pub record Charted (n : ℕ) : Type 0 where
  pub two : 2 ≤ width_of n
  pub most : width_of n ≤ 32
  pub thirds : n % 2 ≡ 1 → width_of n % 3 ≡ 0
  pub few : length (points n) ≤ 1024
  -- each point stands somewhere, and two stretches have the label of the point that stands there
  pub stands : (l : ℕ) → l < length (points n) → (j : ℕ) × (k : ℕ) × Stands n l j k
  pub label_low : {j k : ℕ} → Solid n j k → label_for n j k < length (points n)
  pub label_there : {j k : ℕ} → Solid n j k → point_of n (label_for n j k) ≡ At (level_in (width_of n) j) (level_in (width_of n) k)
  pub label_is : {l j k : ℕ} → Stands n l j k → label_for n j k ≡ l
  -- in a full square a line goes to the lower labels, all along it
  pub lines_i : n % 2 ≡ 0 → (j k : ℕ) → 0 < j → j < width_of n → k < width_of n → label_for n (towards n j) k ≤ label_for n (away n j) k
  pub lines_q : n % 2 ≡ 0 → (j k : ℕ) → j < width_of n → 0 < k → k < width_of n → label_for n j (towards n k) ≤ label_for n j (away n k)
