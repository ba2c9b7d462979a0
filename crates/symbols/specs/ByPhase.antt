-- What the functions of phases.rt answer, whatever comes in: OFDM symbols are looked at, read and written by DQPSK, where that can be.
-- Where no point is astray, what is read comes to `dibits_from` (proofs/Dibits), so that nobody has to believe anything here.
-- Assumes nothing.
use Rattle.std.specs.Prelude.{Bool, cond, ◌&&◌, List, [], ◌∷◌, ◌++◌, map, ℕ, ◌+◌, ◌*◌, ◌/◌, ◌%◌, eqb, ℤ, length, drop, replicate, Result, Ok}
use Rattle.bits.specs.Words.{lowest}
use Rattle.points.specs.declared.Point.{Point}
use Rattle.points.specs.Constellations.{level_i, level_q}
use Rattle.points.specs.Dqpsk.{turn, dibit_to, turned_from, stray_at}
use Rattle.points.specs.Lent.{phase_read}
use Rattle.symbols.specs.Grid.{sub_carriers, symbol_points}
use Rattle.symbols.specs.Grids.{spread, points_from, received, room}
use Rattle.symbols.specs.Faults.{roomy, fault_at}
use Rattle.symbols.specs.declared.phases.Turned.{Turned}
use Rattle.symbols.specs.declared.Fault.{Fault}

-- checks 7 and 8; where they cannot be looked at, no fault is found
abbrev pub phase_fault : ℕ → List ℤ → List ℤ → Result Unit Fault
phase_fault m is qs = cond (roomy m is qs) (fault_at (stray_at (received m is qs)) m is qs) (Ok tt)

-- ---- reading

-- the phases that the points of one OFDM symbol are read as, without a look whether they are points of DQPSK
unfoldable pub phases_read : List ℤ → List ℤ → List ℕ
phases_read is qs = map (λ (p : Point). phase_read (level_i p) (level_q p)) (points_from is qs 1 symbol_points)

-- the bits of the turns from a phase to the first of some phases, from it to the next, and so on
unfoldable pub dibits_between : ℕ → List ℕ → List ℕ
dibits_between phase [] = []
dibits_between phase (to ∷ rest) =
    let d = dibit_to phase to in
    d / 2 ∷ (d % 2 ∷ dibits_between to rest)

-- the last of some phases, behind one
unfoldable pub last_of : ℕ → List ℕ → ℕ
last_of phase [] = phase
last_of phase (to ∷ rest) = last_of to rest

-- the bits of one OFDM symbol, and the phase of its last point; zeros and the phase before it, where it cannot be read
abbrev pub bits_read : ℕ → List ℤ → List ℤ → List ℕ
bits_read phase is qs = cond (room sub_carriers is qs) (dibits_between phase (phases_read is qs)) (replicate (2 * symbol_points) 0)

abbrev pub last_read : ℕ → List ℤ → List ℤ → ℕ
last_read phase is qs = cond (room sub_carriers is qs) (last_of phase (phases_read is qs)) phase

-- ---- writing

-- the phase after bits are turned into points
unfoldable pub phase_after : ℕ → List ℕ → ℕ
phase_after phase [] = phase
phase_after phase (b ∷ []) = phase
phase_after phase (b ∷ (c ∷ bits)) = phase_after (turn phase (2 * b + c)) bits

-- the levels that bits are turned into, and the phase after them
abbrev pub turned_on : ℕ → List ℕ → Turned
turned_on phase bits =
    record { is = map level_i (turned_from phase bits); qs = map level_q (turned_from phase bits); last = phase_after phase bits }

-- there are the bits of one OFDM symbol, and it has room
abbrev pub writable : List ℕ → List ℤ → List ℤ → Bool
writable bits is qs = eqb (length bits) (2 * symbol_points) && room sub_carriers is qs

-- a list of levels once the points that bits are turned into are put onto the 256 sub-carriers of one OFDM symbol; as it was, where that cannot be. An
-- element counts as its lowest binary digit
abbrev pub turns_written : (Point → ℤ) → ℕ → List ℕ → List ℤ → List ℤ → List ℤ → List ℤ
turns_written level phase bits is qs levels =
    cond (writable bits is qs) (spread (map level (turned_from phase (lowest bits))) ++ drop sub_carriers levels) levels

-- the phase of its last point; the phase before it, where nothing is put
abbrev pub last_written : ℕ → List ℕ → List ℤ → List ℤ → ℕ
last_written phase bits is qs = cond (writable bits is qs) (phase_after phase (lowest bits)) phase
