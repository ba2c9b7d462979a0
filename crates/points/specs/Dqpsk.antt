-- DQPSK, clause 6.4.2: each dibit turns the last point by quarter turns.
use Rattle.std.specs.Prelude.{ℕ, ◌+◌, ◌-◌, ◌*◌, ◌/◌, ◌%◌, List, [], ◌∷◌, ℤ, pos, negsuc, get_or, Option}
use Rattle.ground.specs.First.{first_in}
use Rattle.points.specs.declared.Point.{Point}
use Rattle.points.specs.declared.Point.TheVariants.{At, Nothing}
use Rattle.points.specs.Constellations.{label_at, label_number, is_stray, level_i, level_q}

-- the four points, by their names in Table 1
abbrev pub +1 : Point
+1 = At (pos 1) (pos 0)

abbrev pub +j : Point
+j = At (pos 0) (pos 1)

abbrev pub -1 : Point
-1 = At (negsuc 0) (pos 0)

abbrev pub -j : Point
-j = At (pos 0) (negsuc 0)

-- Table 1: a point, and the next one for the dibits 00, 01, 10 and 11
abbrev pub table1 : List (Point × Point × Point × Point × Point)
table1 =
    (+1, +1, +j, -j, -1) ∷
    (-1, -1, -j, +j, +1) ∷
    (+j, +j, -1, +1, -j) ∷
    (-j, -j, +1, -1, +j) ∷
    []

-- the points by their phase, in quarter turns from +1
unfoldable pub phases : List Point
phases = +1 ∷ +j ∷ -1 ∷ -j ∷ []

-- the turns of the dibits 00, 01, 10 and 11: 0, +1, -1 and +2, of which -1 is 3
abbrev pub turns : List ℕ
turns = 0 ∷ 1 ∷ 3 ∷ 2 ∷ []

-- the phase to which a dibit turns
unfoldable pub turn : ℕ → ℕ → ℕ
turn phase dibit = (phase + get_or turns (dibit % 4) 0) % 4

-- the dibit that turns one phase to another: the table of turns is its own inverse
unfoldable pub dibit_to : ℕ → ℕ → ℕ
dibit_to phase to = get_or turns ((to % 4 + 4 - phase % 4) % 4) 0

-- the point of a phase
unfoldable pub phase_point : ℕ → Point
phase_point phase = get_or phases phase Nothing

-- the phase of a point
unfoldable pub phase_of : ℤ → ℤ → Option ℕ
phase_of i q = label_at phases i q

-- the point after p, for a dibit
unfoldable pub after : Point → ℕ → Point
after p dibit = phase_point (turn (label_number (phase_of (level_i p) (level_q p))) dibit)

-- ---- a frame's bits and points: the phase is carried on, from the reference +1, which is not sent

-- the points that bits are turned into, two bits to a point
unfoldable pub turned_from : ℕ → List ℕ → List Point
turned_from phase [] = []
turned_from phase (b ∷ []) = []
turned_from phase (b ∷ (c ∷ bits)) =
    let to = turn phase (2 * b + c) in
    phase_point to ∷ turned_from to bits

unfoldable pub turned : List ℕ → List Point
turned bits = turned_from 0 bits

-- the bits that points are read as, a stray point as +1
unfoldable pub dibits_from : ℕ → List Point → List ℕ
dibits_from phase [] = []
dibits_from phase (p ∷ ps) =
    let to = label_number (phase_of (level_i p) (level_q p)) in
    let d = dibit_to phase to in
    d / 2 ∷ (d % 2 ∷ dibits_from to ps)

unfoldable pub dibits : List Point → List ℕ
dibits ps = dibits_from 0 ps

-- ---- the first stray point

-- the phase of the point at a place
abbrev pub phase_at : List Point → ℕ → Option ℕ
phase_at ps k = phase_of (level_i (get_or ps k Nothing)) (level_q (get_or ps k Nothing))

-- the place of the first point that is none of the four phases; the number of points where there is none
abbrev pub stray_at : List Point → ℕ
stray_at ps = first_in (λ p. is_stray (phase_of (level_i p) (level_q p))) ps
