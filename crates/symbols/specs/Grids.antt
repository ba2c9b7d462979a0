-- Grids of points: two lists of levels, 256 of each to an OFDM symbol; index = 256 times symbol, plus k (document 01, "Bits, lengths and grids").
-- Assumes nothing.
use Rattle.std.specs.Prelude.{Bool, false, not, ◌&&◌, List, [], ◌∷◌, ◌++◌, map, ℕ, zero, suc, ◌+◌, ◌*◌, ◌/◌, ◌%◌, leb, ℤ, pos, length, get_or, take, drop}
use Rattle.ground.specs.First.{first_in, up_from}
use Rattle.points.specs.declared.Point.{Point}
use Rattle.points.specs.declared.Point.TheVariants.{At}
use Rattle.symbols.specs.declared.Carrier.{Carrier}
use Rattle.symbols.specs.declared.Carrier.TheVariants.{Holds, Empty}
use Rattle.points.specs.Constellations.{same}
use Rattle.symbols.specs.Grid.{sub_carriers, symbol_points, carrier_at, carrier_of}

-- ---- what is sent

-- the level of a sub-carrier, of the levels of s(1), s(2), ..: 0 where it is empty
abbrev pub level_on : List ℤ → Carrier → ℤ
level_on levels (Holds s) = get_or (pos 0 ∷ levels) s (pos 0)
level_on levels Empty = pos 0

-- the levels of sub-carriers k, k + 1 and so on, n of them
unfoldable pub levels_from : List ℤ → ℕ → ℕ → List ℤ
levels_from levels k zero = []
levels_from levels k (suc n) = level_on levels (carrier_at k) ∷ levels_from levels (suc k) n

-- the levels of the 256 sub-carriers of one OFDM symbol
unfoldable pub spread : List ℤ → List ℤ
spread levels = levels_from levels 0 sub_carriers

-- the levels of m OFDM symbols, 210 points to each
unfoldable pub placed : (Point → ℤ) → ℕ → List Point → List ℤ
placed level zero ps = []
placed level (suc m) ps = spread (map level (take symbol_points ps)) ++ placed level m (drop symbol_points ps)

-- ---- what is received

-- the point at a grid index
abbrev pub point_at : List ℤ → List ℤ → ℕ → Point
point_at is qs index = At (get_or is index (pos 0)) (get_or qs index (pos 0))

-- the points s, s + 1 and so on, n of them, of one OFDM symbol
unfoldable pub points_from : List ℤ → List ℤ → ℕ → ℕ → List Point
points_from is qs s zero = []
points_from is qs s (suc n) = point_at is qs (carrier_of s) ∷ points_from is qs (suc s) n

-- the points of m OFDM symbols, in s order within each
unfoldable pub received : ℕ → List ℤ → List ℤ → List Point
received zero is qs = []
received (suc m) is qs = points_from is qs 1 symbol_points ++ received m (drop sub_carriers is) (drop sub_carriers qs)

-- the grid index of the point at a place of that order
unfoldable pub index_of : ℕ → ℕ
index_of place = sub_carriers * (place / symbol_points) + carrier_of (suc (place % symbol_points))

-- whether a sub-carrier is unavailable and has a point, (i, q), other than (0, 0)
abbrev pub occupied : Carrier → ℤ → ℤ → Bool
occupied (Holds s) i q = false
occupied Empty i q = not (same i (pos 0) && same q (pos 0))

-- whether the sub-carrier of a grid index is such a one
abbrev pub occupied_at : List ℤ → List ℤ → ℕ → Bool
occupied_at is qs k = occupied (carrier_at (k % sub_carriers)) (get_or is k (pos 0)) (get_or qs k (pos 0))

-- how many grid indices come before the first such one, of n from index k on; n where there is none
abbrev pub first_occupied : List ℤ → List ℤ → ℕ → ℕ → ℕ
first_occupied is qs k n = first_in (occupied_at is qs) (up_from k n)

-- ---- the lists themselves

-- both have at least n elements
abbrev pub room : ℕ → List ℤ → List ℤ → Bool
room n is qs = leb n (length is) && leb n (length qs)
