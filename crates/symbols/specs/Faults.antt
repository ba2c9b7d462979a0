-- What is wrong with OFDM symbols, checks 7 and 8, whichever way their points are read.
-- Assumes nothing.
use Rattle.std.specs.Prelude.{Bool, cond, ◌&&◌, List, ℕ, ◌*◌, ◌%◌, leb, ltb, ℤ, pos, get_or, Result, Ok, Err}
use Rattle.ground.specs.First.{first_in, up_from}
use Rattle.symbols.specs.Grid.{sub_carriers, symbol_points}
use Rattle.symbols.specs.Grids.{index_of, first_occupied, room}
use Rattle.symbols.specs.declared.Fault.{Fault}
use Rattle.symbols.specs.declared.Fault.TheVariants.{Occupied, StrayPoint}

-- m OFDM symbols can be looked at: at most 256 of them, in lists that are long enough
abbrev pub roomy : ℕ → List ℤ → List ℤ → Bool
roomy m is qs = leb m 256 && room (sub_carriers * m) is qs

-- nothing, or what is wrong: 7 over all OFDM symbols before 8 begins; `stray` is the place of the first stray point, in s order
abbrev pub fault_at : ℕ → ℕ → List ℤ → List ℤ → Result Unit Fault
fault_at stray m is qs =
    cond (ltb (first_occupied is qs 0 (sub_carriers * m)) (sub_carriers * m)) (Err (Occupied (first_occupied is qs 0 (sub_carriers * m))))
    (cond (ltb stray (symbol_points * m)) (Err (StrayPoint (index_of stray))) (Ok tt))

-- of a way to read points, which says of (i, q), as the point s of 210, whether it is stray: the place of the first stray point of m OFDM symbols, in s order;
-- 210 m where there is none
abbrev pub stray_by : (ℕ → ℤ → ℤ → Bool) → List ℤ → List ℤ → ℕ → Bool
stray_by strays is qs place = strays (place % symbol_points) (get_or is (index_of place) (pos 0)) (get_or qs (index_of place) (pos 0))

abbrev pub first_stray : (ℕ → ℤ → ℤ → Bool) → ℕ → List ℤ → List ℤ → ℕ
first_stray strays m is qs = first_in (stray_by strays is qs) (up_from 0 (symbol_points * m))

-- checks 7 and 8; where they cannot be looked at, no fault is found
abbrev pub fault_by : (ℕ → ℤ → ℤ → Bool) → ℕ → List ℤ → List ℤ → Result Unit Fault
fault_by strays m is qs = cond (roomy m is qs) (fault_at (first_stray strays m is qs) m is qs) (Ok tt)
