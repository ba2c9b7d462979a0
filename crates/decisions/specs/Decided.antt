-- Noisy points, decided (document 02, item 1): each to the nearest of its own table, in the order of the points.
-- Assumes nothing.
use Rattle.std.specs.Prelude.{List, [], ◌∷◌, map, ℕ, ℤ, replicate}
use Rattle.points.specs.declared.Point.{Point}
use Rattle.points.specs.Constellations.{points, level_i, level_q}
use Rattle.points.specs.Dqpsk.{phases}
use Rattle.nearest.specs.Nearest.{nearest}
use Rattle.symbols.specs.Grids.{placed, received}

unfoldable pub decided : List (List Point) → List Point → List Point
decided [] ps = []
decided (table ∷ tables) [] = []
decided (table ∷ tables) (p ∷ ps) = nearest table (level_i p) (level_q p) ∷ decided tables ps

-- the tables of n points of DQPSK, and of points by entries of a scheme
abbrev pub phase_tables : ℕ → List (List Point)
phase_tables n = replicate n phases

abbrev pub scheme_tables : List ℕ → List (List Point)
scheme_tables entries = map points entries

-- the levels of m OFDM symbols: unavailable sub-carriers are not looked at, and come out 0
abbrev pub decided_levels : (Point → ℤ) → List (List Point) → ℕ → List ℤ → List ℤ → List ℤ
decided_levels level tables m is qs = placed level m (decided tables (received m is qs))
