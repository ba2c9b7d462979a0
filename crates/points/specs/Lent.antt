-- How the code reads: what the functions that are lent tables answer, whatever they are lent, and the tables that are ours to lend.
-- With ours it comes to `point_of` and `label_of` (proofs/Lending.antt), so that nobody has to believe anything here.
-- But for 8QAM a label's first two bits are the signs of I and Q, and the rest, the low bits, stand for a cell:
-- cell 16x + y has the levels 2x + 1 and 2y + 1. So a quarter of each table of Annex B says it all.
use Rattle.std.specs.Prelude.{ℕ, zero, suc, ◌+◌, ◌-◌, ◌*◌, ◌/◌, ◌%◌, ◌^◌, cond, ◌&&◌, List, [], ◌∷◌, ◌++◌, map, eqb, leb, ltb, ℤ, pos, negsuc, get_or, take, drop, Option, Some, None}
use Rattle.std.specs.Int.Signed.{mag}
use Rattle.ground.specs.First.{up_from}
use Rattle.points.specs.declared.Point.{Point}
use Rattle.points.specs.declared.Point.TheVariants.{At, Nothing}
use Rattle.points.specs.declared.level.Parts.{Parts}
use Rattle.points.specs.Constellations.{points, point_of, is_at, level_i, level_q}

-- byte k of a word of eight bytes, the first one highest
abbrev pub byte_of : ℕ → ℕ → ℕ
byte_of word k = word / 2 ^ (56 - 8 * (k % 8)) % 256

-- byte k of a table of such words that has so many bytes, round which k goes
abbrev pub byte_in : ℕ → List ℕ → ℕ → ℕ
byte_in bytes table k = byte_of (get_or table (k % bytes / 8) 0) (k % bytes)

-- ---- signs and sizes

-- a level's sign, 1 where it is negative, and its size: n both for n and for -(n + 1)
abbrev pub parts_of : ℤ → Parts
parts_of (pos n) = record { sign = 0; size = n }
parts_of (negsuc n) = record { sign = 1; size = n }

-- the odd level 2h + 1, negated unless the sign is 0
abbrev pub level_of : ℕ → ℕ → ℤ
level_of sign h = cond (eqb sign 0) (pos (2 * h + 1)) (negsuc (2 * h))

-- how many labels of n bits share their first two: none, unless n is 2 to 10
unfoldable pub quarter_of : ℕ → ℕ
quarter_of n = cond (leb 2 n && leb n 10) (2 ^ (n - 2)) 0

-- ---- from label to point

-- the point of a cell, with the signs that two bits say
abbrev pub signed : ℕ → ℕ → Point
signed signs cell = At (level_of (signs / 2) (cell / 16)) (level_of (signs % 2) (cell % 16))

-- the point of a label, where q labels are a quarter
abbrev pub quarter_point : List ℕ → ℕ → ℕ → Point
quarter_point cells q l = cond (ltb l (4 * q)) (signed (l / q) (byte_in 512 cells (q + l % q))) Nothing

-- the point of a label of n bits, by a table of cells
unfoldable pub point_in : List ℕ → ℕ → ℕ → Point
point_in cells n l = cond (eqb n 3) (point_of 3 l) (quarter_point cells (quarter_of n) l)

-- ---- from point to label: a label is guessed by table, and stands if its point is the one that came in

-- 0, 1 or 2 for the levels 0, 2 and -2 of 8QAM
abbrev pub side : Parts → ℕ
side p = (p.size / 2 % 16 + p.sign % 2 * 2) % 3

-- the one label of 8QAM that two levels can have
abbrev pub eight_guess : Parts → Parts → ℕ
eight_guess i q = get_or (get_or ((0 ∷ 4 ∷ 2 ∷ []) ∷ (1 ∷ 0 ∷ 3 ∷ []) ∷ (7 ∷ 5 ∷ 6 ∷ []) ∷ []) (side i) []) (side q) 0

-- the two bits that the signs say
abbrev pub signs_of : Parts → Parts → ℕ
signs_of i q = i.sign % 2 * 2 + q.sign % 2

-- the low bits that the quadrant of n bits has at row x and column y: the table's first row says where it starts
abbrev pub low_in : List ℕ → ℕ → ℕ → ℕ → ℕ
low_in quadrants n x y = byte_in 1024 quadrants (16 * (byte_in 1024 quadrants (n % 16) + x % 16) + y % 16)

-- the one label of n bits, but of 3, that two levels can have
abbrev pub quarter_guess : List ℕ → ℕ → Parts → Parts → ℕ
quarter_guess quadrants n i q = quarter_of n * signs_of i q + low_in quadrants n (i.size / 2) (q.size / 2)

-- the one label of n bits that two levels can have, by a table of quadrants
unfoldable pub guess_in : List ℕ → ℕ → Parts → Parts → ℕ
guess_in quadrants n i q = cond (eqb n 3) (eight_guess i q) (quarter_guess quadrants n i q)

-- the one phase of DQPSK that two levels can have
abbrev pub phase_guess : Parts → Parts → ℕ
phase_guess i q = (q.size % 4 + i.sign % 2 * 2 + q.sign % 2 * 3) % 4

-- the phase that (i, q) is read as, whether it is a point of DQPSK or not
unfoldable pub phase_read : ℤ → ℤ → ℕ
phase_read i q = phase_guess (parts_of i) (parts_of q)

-- the label guessed for (i, q), if p, the point of that label, is (i, q)
abbrev pub confirmed : Point → ℕ → ℤ → ℤ → Option ℕ
confirmed p guess i q = cond (is_at p i q) (Some guess) None

-- the label of n bits of (i, q), by both tables
unfoldable pub label_in : List ℕ → List ℕ → ℕ → ℤ → ℤ → Option ℕ
label_in cells quadrants n i q =
    let guess = guess_in quadrants n (parts_of i) (parts_of q) in
    confirmed (point_in cells n guess) guess i q

-- the label of n bits that two levels are read as, without a look whether their point is of the constellation: 0, unless n is 2 to 10
unfoldable pub read_in : List ℕ → ℕ → ℤ → ℤ → ℕ
read_in quadrants n i q = cond (leb 2 n && leb n 10) (guess_in quadrants n (parts_of i) (parts_of q)) 0

-- ---- our tables, from Annex B

-- the cells of the labels of n bits whose first two bits are 0
unfoldable pub quarter_cells : ℕ → List ℕ
quarter_cells n = map (λ p. mag (level_i p) / 2 * 16 + mag (level_q p) / 2) (take (quarter_of n) (points n))

-- f 2, f 3 and so on to f 10, one after the other
abbrev pub each : (ℕ → List ℕ) → List ℕ
each f = f 2 ++ f 3 ++ f 4 ++ f 5 ++ f 6 ++ f 7 ++ f 8 ++ f 9 ++ f 10

-- the word of these bytes, after those of w
unfoldable pub word : ℕ → List ℕ → ℕ
word w [] = w
word w (b ∷ bytes) = word (256 * w + b) bytes

-- k words of eight bytes
unfoldable pub words : ℕ → List ℕ → List ℕ
words zero bytes = []
words (suc k) bytes = word 0 (take 8 bytes) ∷ words k (drop 8 bytes)

-- the cell of low bits l at byte 2^(n-2) + l
unfoldable pub our_cells : List ℕ
our_cells = words 64 (0 ∷ each quarter_cells)

-- the place of x in a list, counted from k, and 0 where it does not stand there
unfoldable pub place_from : ℕ → ℕ → List ℕ → ℕ
place_from k x [] = 0
place_from k x (y ∷ ys) = cond (eqb y x) k (place_from (suc k) x ys)

-- how many positive levels the points of n bits have, for n from 0: 8QAM is left out
abbrev pub sides : List ℕ
sides = 0 ∷ 0 ∷ 1 ∷ 0 ∷ 2 ∷ 3 ∷ 4 ∷ 6 ∷ 8 ∷ 12 ∷ 16 ∷ []

-- the row at which each quadrant starts, filled up to sixteen
unfoldable pub starts_from : ℕ → List ℕ → List ℕ
starts_from row [] = 0 ∷ 0 ∷ 0 ∷ 0 ∷ 0 ∷ []
starts_from row (side ∷ rest) = row ∷ starts_from (row + side) rest

-- the low bits of the cells of n bits, a row of sixteen for each positive level of I
unfoldable pub quarter_lows : ℕ → List ℕ
quarter_lows n = map (λ cell. place_from 0 cell (quarter_cells n)) (up_from 0 (16 * get_or sides n 0))

-- the starts, and then the quadrants: the low bits of cell 16x + y at row x and column y; filled up to a power of two
unfoldable pub our_quadrants : List ℕ
our_quadrants = words 128 (starts_from 1 sides ++ each quarter_lows)
