-- OFDM symbols by a scheme (document 01, "Payload B on the wire"): it gives bits per point for s(1), .., s(210), the same in every OFDM symbol.
-- Assumes nothing.
use Rattle.std.specs.Prelude.{◌≡◌, ◌||◌, ℕ, zero, suc, ◌+◌, ltb, length, take, drop, Option}
use mathlib.Core.List.{List, [], ◌∷◌, ◌++◌, zip_with}
use Rattle.ground.specs.First.{first_in}
use Rattle.bits.specs.Words.{digits}
use Rattle.bits.specs.Bytes.{as_number}
use Rattle.points.specs.declared.Point.{Point}
use Rattle.points.specs.Constellations.{point_of, label_of, label_number, is_stray, level_i, level_q}
use Rattle.symbols.specs.Grid.{symbol_points}

-- ---- schemes

-- the first entry of a scheme outside 2..10; the length where there is none
abbrev pub bad_entry : List ℕ → ℕ
bad_entry scheme = first_in (λ n. ltb n 2 || ltb 10 n) scheme

-- a scheme of 210 entries, each from 2 to 10
pub record Scheme (scheme : List ℕ) : Type 0 where
  pub long : length scheme ≡ symbol_points
  pub entries : bad_entry scheme ≡ symbol_points

-- so many bits to an OFDM symbol
unfoldable pub sum_of : List ℕ → ℕ
sum_of [] = 0
sum_of (n ∷ ns) = n + sum_of ns

-- the scheme is the same in every OFDM symbol
unfoldable pub repeated : ℕ → List ℕ → List ℕ
repeated zero scheme = []
repeated (suc m) scheme = scheme ++ repeated m scheme

-- ---- bits to points

-- bits fill points in order, the first bit being b(n-1)
unfoldable pub mapped : List ℕ → List ℕ → List Point
mapped [] bits = []
mapped (n ∷ ns) bits = point_of n (as_number (take n bits)) ∷ mapped ns (drop n bits)

-- ---- and back

-- the label of a point of n bits
abbrev pub point_label : ℕ → Point → Option ℕ
point_label n p = label_of n (level_i p) (level_q p)

-- the bits that points stand for: of each, its label in as many bits as its entry of the scheme says, b(n-1) first
unfoldable pub labelled : List ℕ → List Point → List ℕ
labelled [] ps = []
labelled (n ∷ ns) [] = []
labelled (n ∷ ns) (p ∷ ps) = digits n (label_number (point_label n p)) ++ labelled ns ps

-- the place of the first point that is none of its sub-carrier's constellation; the number of points where there is none
abbrev pub stray_in : List ℕ → List Point → ℕ
stray_in scheme ps = first_in is_stray (zip_with point_label scheme ps)
