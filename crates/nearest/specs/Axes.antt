-- How the code decides, whatever table it is lent: by the two axes, and not by a walk through the table.
-- With our table it comes to `nearest` (proofs/Nears, proofs/Phases), so that nobody has to believe anything here.
-- What came in is raised by 32768, so that it is not negative. An axis has w levels, 2 apart: in sixty-fourths each has a stretch of 128, with the level in its
-- middle, and on the line between two stretches both levels are as near. The first and the last stretch reach out to where numbers end.
-- Assumes nothing.
use Rattle.std.specs.Prelude.{ℕ, ◌+◌, ◌-◌, ◌*◌, ◌/◌, ◌%◌, ◌^◌, min, Bool, true, false, cond, not, ◌&&◌, ◌||◌, List, [], ◌∷◌, eqb, leb, ltb, ℤ, pos, negsuc, nat_abs, get_or}
use Rattle.std.proofs.Math.IntN.{sub_ℕ}
use Rattle.points.specs.declared.Point.{Point}
use Rattle.points.specs.declared.Point.TheVariants.{At, Nothing}
use Rattle.points.specs.Constellations.{point_of}
use Rattle.points.specs.Lent.{read_in}
use Rattle.nearest.specs.declared.holes.Candidate.{Candidate}

-- ---- an axis

-- a number of sixteen bits, raised
abbrev pub raised : ℤ → ℕ
raised (pos n) = 32768 + n
raised (negsuc n) = 32767 - n

-- the levels that an axis has with n bits per point, for n from 0
unfoldable pub width_of : ℕ → ℕ
width_of n = get_or (0 ∷ 0 ∷ 2 ∷ 3 ∷ 4 ∷ 6 ∷ 8 ∷ 12 ∷ 16 ∷ 24 ∷ 32 ∷ []) n 0

-- where stretch j begins: raised
abbrev pub edge_of : ℕ → ℕ → ℕ
edge_of w j = 32768 - 64 * w + 128 * j

-- the stretch in which x lies
abbrev pub stretch_of : ℕ → ℕ → ℕ
stretch_of w x = min ((x - edge_of w 0) / 128) (w - 1)

-- the stretch beyond the line on which x lies, where it lies on one; else its own
abbrev pub beyond_of : ℕ → ℕ → ℕ → ℕ
beyond_of w x j = cond (ltb 0 j && eqb x (edge_of w j)) (j - 1) j

-- the level of a stretch
abbrev pub level_in : ℕ → ℕ → ℤ
level_in w j = sub_ℕ (2 * j + 1) w

-- ---- full squares, where n is even: each axis decides alone

-- bit j says that the line before stretch j goes to the level before it, whose labels are lower
unfoldable pub lines_of : ℕ → ℕ
lines_of n = get_or (0 ∷ 0 ∷ 0 ∷ 0 ∷ 0x2 ∷ 0 ∷ 0x26 ∷ 0 ∷ 0x2636 ∷ 0 ∷ 0x2636_2736 ∷ []) n 0

abbrev pub chosen_of : ℕ → ℕ → ℕ → ℕ
chosen_of lines w x = let j = stretch_of w x in cond (eqb (lines / 2 ^ j % 2) 1) (beyond_of w x j) j

unfoldable pub in_square : ℕ → ℕ → ℕ → Point
in_square n x y = let w = width_of n in At (level_in w (chosen_of (lines_of n) w x)) (level_in w (chosen_of (lines_of n) w y))

-- ---- squares with holes, where n is odd: no point stands in the middle of each three by three stretches

abbrev pub is_hole : ℕ → ℕ → Bool
is_hole j k = eqb (j % 3) 1 && eqb (k % 3) 1

-- how far x is from the middle of a stretch
abbrev pub off_of : ℕ → ℕ → ℕ → ℕ
off_of w x j = (x - (edge_of w j + 64)) + (edge_of w j + 64 - x)

-- the squared distance to the point of two stretches
abbrev pub far_of : ℕ → ℕ → ℕ → ℕ → ℕ → ℕ
far_of w x y j k = off_of w x j * off_of w x j + off_of w y k * off_of w y k

-- distance first, then label; in a hole more than any
abbrev pub key_of : List ℕ → ℕ → ℕ → ℕ → ℕ → ℕ → ℕ → ℕ
key_of quadrants n w x y j k = cond (is_hole j k) (2 ^ 63) (1024 * far_of w x y j k + read_in quadrants n (level_in w j) (level_in w k))

abbrev pub candidate_of : List ℕ → ℕ → ℕ → ℕ → ℕ → ℕ → ℕ → Candidate
candidate_of quadrants n w x y j k = record { key = key_of quadrants n w x y j k; i = level_in w j; q = level_in w k }

-- the lesser key, and of four the least
abbrev pub lesser : Candidate → Candidate → Candidate
lesser a b = cond (ltb b.key a.key) b a

abbrev pub least_of : Candidate → Candidate → Candidate → Candidate → Candidate
least_of a b c d = lesser (lesser a b) (lesser c d)

abbrev pub standing : Candidate → Point
standing a = At a.i a.q

-- the four round a line or two
abbrev pub round_line : List ℕ → ℕ → ℕ → ℕ → ℕ → ℕ → ℕ → ℕ → ℕ → Point
round_line quadrants n w x y j k j2 k2 =
    let at = candidate_of quadrants n w x y in
    standing (least_of (at j k) (at j2 k) (at j k2) (at j2 k2))

-- the four beside a hole
abbrev pub beside_hole : List ℕ → ℕ → ℕ → ℕ → ℕ → ℕ → ℕ → Point
beside_hole quadrants n w x y j k =
    let at = candidate_of quadrants n w x y in
    standing (least_of (at (j - 1) k) (at (j + 1) k) (at j (k - 1)) (at j (k + 1)))

abbrev pub on_none : ℕ → ℕ → ℕ → ℕ → Bool
on_none j k j2 k2 = eqb j j2 && eqb k k2

unfoldable pub in_holed : List ℕ → ℕ → ℕ → ℕ → Point
in_holed quadrants n x y =
    let w = width_of n in
    let j = stretch_of w x in
    let k = stretch_of w y in
    let j2 = beyond_of w x j in
    let k2 = beyond_of w y k in
    cond (on_none j k j2 k2)
    (cond (is_hole j k) (beside_hole quadrants n w x y j k) (At (level_in w j) (level_in w k)))
    (round_line quadrants n w x y j k j2 k2)

-- ---- 8QAM, which is one hole and the eight points round it

-- on an axis, by label: whether the point's level is -2, 0 or 2, as 0, 1 or 2
abbrev pub sides_i : List ℕ
sides_i = 2 ∷ 2 ∷ 1 ∷ 2 ∷ 1 ∷ 0 ∷ 0 ∷ 0 ∷ []

abbrev pub sides_q : List ℕ
sides_q = 2 ∷ 1 ∷ 0 ∷ 0 ∷ 2 ∷ 2 ∷ 0 ∷ 1 ∷ []

-- the score of x there: the squared distance is 256 times the score and something that is the same for all three
abbrev pub score_of : ℕ → ℕ → ℕ
score_of x side = get_or ((x + 32832) ∷ 65536 ∷ (98368 - x) ∷ []) side 0

-- score first, then label
abbrev pub eight_key : ℕ → ℕ → ℕ → ℕ
eight_key x y l = 8 * (score_of x (get_or sides_i l 0) + score_of y (get_or sides_q l 0)) + l

abbrev pub least_key : ℕ → ℕ → ℕ
least_key x y =
    min (min (min (eight_key x y 0) (eight_key x y 1)) (min (eight_key x y 2) (eight_key x y 3)))
    (min (min (eight_key x y 4) (eight_key x y 5)) (min (eight_key x y 6) (eight_key x y 7)))

unfoldable pub in_eight : ℕ → ℕ → Point
in_eight x y = point_of 3 (least_key x y % 8)

-- ---- any of the nine

-- the nearest point of n bits by a table of quadrants (points/specs/Lent): nothing, unless n is 2 to 10
unfoldable pub nearest_in : List ℕ → ℕ → ℤ → ℤ → Point
nearest_in quadrants n i q =
    cond (leb 2 n && leb n 10)
    (cond (eqb (n % 2) 0) (in_square n (raised i) (raised q))
    (cond (eqb n 3) (in_eight (raised i) (raised q)) (in_holed quadrants n (raised i) (raised q))))
    Nothing

-- ---- DQPSK

-- +1 or -1, on the side of x: +1 for 0
abbrev pub unit_of : ℤ → ℤ
unit_of (pos n) = pos 1
unit_of (negsuc n) = negsuc 0

abbrev pub is_negative : ℤ → Bool
is_negative (pos n) = false
is_negative (negsuc n) = true

-- whether the nearer point is one of +j and -j: on the diagonals +1 comes before both, +j before -1, and -1 before -j
abbrev pub is_upright : ℤ → ℤ → Bool
is_upright i q = ltb (nat_abs i) (nat_abs q) || (eqb (nat_abs i) (nat_abs q) && (is_negative i && not (is_negative q)))

unfoldable pub phase_near : ℤ → ℤ → Point
phase_near i q = cond (is_upright i q) (At (pos 0) (unit_of q)) (At (unit_of i) (pos 0))
