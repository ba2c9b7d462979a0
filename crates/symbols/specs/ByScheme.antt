-- What the functions of scheme.rt answer, whatever comes in: OFDM symbols are looked at, read and written by a scheme, where that can be.
-- With no point astray, what is read comes to `labelled` (proofs/ReadBits), and what is said of a lent table comes to the same by ours (proofs/ReadIn,
-- proofs/Writings), so that nobody has to believe anything here.
-- Assumes nothing.
use Rattle.std.specs.Prelude.{Bool, cond, ◌&&◌, List, [], ◌∷◌, ◌++◌, map, ℕ, eqb, ℤ, length, take, drop, Result, Ok}
use Rattle.bits.specs.Words.{digits}
use Rattle.bits.specs.Bytes.{as_number}
use Rattle.points.specs.declared.Point.{Point}
use Rattle.points.specs.Constellations.{level_i, level_q}
use Rattle.points.specs.Lent.{read_in, point_in, our_quadrants}
use Rattle.symbols.specs.Grid.{sub_carriers, symbol_points}
use Rattle.symbols.specs.Grids.{spread, points_from, received}
use Rattle.symbols.specs.Faults.{roomy, fault_at}
use Rattle.symbols.specs.Schemes.{bad_entry, repeated, mapped, stray_in}
use Rattle.symbols.specs.declared.Fault.{Fault}

-- a scheme has 210 entries, each from 2 to 10
abbrev pub is_good : List ℕ → Bool
is_good scheme = eqb (length scheme) symbol_points && eqb (bad_entry scheme) symbol_points

-- the first entry of 210 that is outside 2 to 10; 210 where there are not 210
abbrev pub bad_place : List ℕ → ℕ
bad_place scheme = cond (eqb (length scheme) symbol_points) (bad_entry scheme) symbol_points

-- m OFDM symbols can be looked at by a scheme
abbrev pub readable : ℕ → List ℕ → List ℤ → List ℤ → Bool
readable m scheme is qs = is_good scheme && roomy m is qs

-- checks 7 and 8; where they cannot be looked at, no fault is found
abbrev pub fault_in : ℕ → List ℕ → List ℤ → List ℤ → Result Unit Fault
fault_in m scheme is qs = cond (readable m scheme is qs) (fault_at (stray_in (repeated m scheme) (received m is qs)) m is qs) (Ok tt)

-- ---- by our tables

-- the bits that points are read as by our table (points/specs/Lent), without a look whether they are of their constellations
unfoldable pub read_by : List ℕ → List Point → List ℕ
read_by [] ps = []
read_by (n ∷ ns) [] = []
read_by (n ∷ ns) (p ∷ ps) = digits n (read_in our_quadrants n (level_i p) (level_q p)) ++ read_by ns ps

-- those of one OFDM symbol; none, where it cannot be read
abbrev pub symbol_read : List ℕ → List ℤ → List ℤ → List ℕ
symbol_read scheme is qs = cond (readable 1 scheme is qs) (read_by scheme (points_from is qs 1 symbol_points)) []

-- a list of levels once the points of bits are put onto the 256 sub-carriers of one OFDM symbol; as it was, where that cannot be
abbrev pub symbol_written : (Point → ℤ) → List ℕ → List ℕ → List ℤ → List ℤ → List ℤ → List ℤ
symbol_written level scheme bits is qs levels =
    cond (readable 1 scheme is qs) (spread (map level (mapped scheme bits)) ++ drop sub_carriers levels) levels

-- ---- by a table that is lent

-- the bits that points are read as by a lent table: by ours they are `read_by` (proofs/ReadIn: `read_ours`)
unfoldable pub read_by_in : List ℕ → List ℕ → List Point → List ℕ
read_by_in quadrants [] ps = []
read_by_in quadrants (n ∷ ns) [] = []
read_by_in quadrants (n ∷ ns) (p ∷ ps) = digits n (read_in quadrants n (level_i p) (level_q p)) ++ read_by_in quadrants ns ps

-- those of one OFDM symbol; none, where it cannot be read
abbrev pub symbol_read_in : List ℕ → List ℕ → List ℤ → List ℤ → List ℕ
symbol_read_in quadrants scheme is qs = cond (readable 1 scheme is qs) (read_by_in quadrants scheme (points_from is qs 1 symbol_points)) []

-- the points that bits are sent as by a lent table of cells: by ours they are `mapped` (proofs/Writings: `mapped_ours`)
unfoldable pub mapped_by : List ℕ → List ℕ → List ℕ → List Point
mapped_by cells [] bits = []
mapped_by cells (n ∷ ns) bits = point_in cells n (as_number (take n bits)) ∷ mapped_by cells ns (drop n bits)

-- a list of levels once they are put onto the 256 sub-carriers of one OFDM symbol; as it was, where that cannot be
abbrev pub symbol_written_in : (Point → ℤ) → List ℕ → List ℕ → List ℕ → List ℤ → List ℤ → List ℤ → List ℤ
symbol_written_in level cells scheme bits is qs levels =
    cond (readable 1 scheme is qs) (spread (map level (mapped_by cells scheme bits)) ++ drop sub_carriers levels) levels
