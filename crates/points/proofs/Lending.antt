-- Our tables, lent, read Annex B: at every label and every point of its nine tables by computation, and so everywhere.
-- Assumes nothing.
use mathlib.Core.Path.{◌≡◌, refl, sym, ap, subst, ◌∙◌}
use mathlib.Core.Bool.{Bool, true, false, cond}
use mathlib.Core.List.{List, []}
use Prim.Native.Nat.{ℕ, ◌*◌, ◌<◌, ◌≤◌, zero-le}
use native.Mathlib.Decide.{dec_le}
use native.Mathlib.Omega.{arith}
use lib.Dec.{T, eqb}
use lib.IntN.{ℤ}
use lib.ListN.{length, get_or, get_or-eq_default}
use borrow.Author.Tests.{ne_eqb, le-leb, lt-leb, le-ltb, eqb-true}
use Rattle.ground.specs.First.{up_from}
use Rattle.points.specs.declared.Point.{Point}
use Rattle.points.specs.declared.Point.TheVariants.{At, Nothing}
use Rattle.points.specs.Constellations.{tables, columns, points, point_of, label_of, is_at, level_i, level_q}
use Rattle.points.specs.Lent.{parts_of, quarter_of, quarter_point, point_in, guess_in, label_in, read_in, confirmed, quarter_cells, word, words, our_cells, place_from, starts_from, quarter_lows, our_quadrants}
use Rattle.ground.proofs.Tests.{all, all_at, all_equal, every, every_at, is_true}
use Rattle.points.proofs.Places.{no_point, is_at_lem, Tells, tells, tells_is, look_again}

-- ---- any table: a number of bits that has no constellation

unknown : (cells : List ℕ) (n l : ℕ) → (n ≡ 3 → ⊥) → quarter_of n ≡ 0 → point_in cells n l ≡ Nothing
unfolding point_in
unknown cells n l no3 none = rw (ne_eqb n 3 no3, none, le-ltb l 0 zero-le)

no_quarter : (n : ℕ) → 11 ≤ n → quarter_of n ≡ 0
unfolding quarter_of
no_quarter n h = rw (le-leb 2 n (omega arith), lt-leb n 10 h)

pub too_few : (cells : List ℕ) (n l : ℕ) → n < 2 → point_in cells n l ≡ Nothing
unfolding quarter_of
too_few cells n l h = unknown cells n l (λ e. omega arith) (rw (lt-leb 2 n h))

pub too_many : (cells : List ℕ) (n l : ℕ) → 10 < n → point_in cells n l ≡ Nothing
too_many cells n l h = unknown cells n l (λ e. omega arith) (no_quarter n h)

-- ---- any table: by the cells where a label has no table of its own

pub point_by_eight : (cells : List ℕ) (l : ℕ) → point_in cells 3 l ≡ point_of 3 l
unfolding point_in
point_by_eight cells l = refl

pub point_by_quarter : (cells : List ℕ) (n l : ℕ) → (n ≡ 3 → ⊥) → point_in cells n l ≡ quarter_point cells (quarter_of n) l
unfolding point_in
point_by_quarter cells n l no3 = rw (ne_eqb n 3 no3)

-- ---- any tables: a label that is read stands, if its point is the one that came in

-- a label is read as it is guessed
read_is_guess : (quadrants : List ℕ) (n : ℕ) (i q : ℤ) → 2 ≤ n → n ≤ 10 → read_in quadrants n i q ≡ guess_in quadrants n (parts_of i) (parts_of q)
unfolding read_in
read_is_guess quadrants n i q a b = rw (le-leb 2 n a, le-leb n 10 b)

-- where there are no points
no_label : (cells quadrants : List ℕ) (n l : ℕ) (i q : ℤ) → ((l : ℕ) → point_in cells n l ≡ Nothing) → confirmed (point_in cells n l) l i q ≡ label_in cells quadrants n i q
unfolding label_in
no_label cells quadrants n l i q none = rw (none l, none (guess_in quadrants n (parts_of i) (parts_of q)))

pub label_by_read : (cells quadrants : List ℕ) (n : ℕ) (i q : ℤ) →
    confirmed (point_in cells n (read_in quadrants n i q)) (read_in quadrants n i q) i q ≡ label_in cells quadrants n i q
unfolding label_in
label_by_read cells quadrants n i q = by (dec_le 2 n) (dec_le n 10)
  where
    by : Dec (2 ≤ n) → Dec (n ≤ 10) → confirmed (point_in cells n (read_in quadrants n i q)) (read_in quadrants n i q) i q ≡ label_in cells quadrants n i q
    by (yes a) (yes b) = rw (read_is_guess quadrants n i q a b)
    by (no a) h = no_label cells quadrants n (read_in quadrants n i q) i q (λ l. too_few cells n l (omega arith))
    by (yes a) (no b) = no_label cells quadrants n (read_in quadrants n i q) i q (λ l. too_many cells n l (omega arith))

-- ---- how many points there are

no_points : (n : ℕ) → 11 ≤ n → points n ≡ []
unfolding points columns tables
no_points n h = ap columns (get_or-eq_default tables [] h)

count_test : T (all 11 (λ n. eqb (length (points n)) (4 * quarter_of n)))
unfolding quarter_of points columns tables
count_test = tt

pub count : (n : ℕ) → length (points n) ≡ 4 * quarter_of n
count n = by (dec_le 11 n)
  where
    by : Dec (11 ≤ n) → length (points n) ≡ 4 * quarter_of n
    by (yes h) = ap length (no_points n h) ∙ sym (ap (λ (q : ℕ). 4 * q) (no_quarter n h))
    by (no h) = all_equal 11 (λ n. length (points n)) (λ n. 4 * quarter_of n) count_test n (omega arith)

pub listed : (n l : ℕ) → l < length (points n) → n < 11
listed n l h = by (dec_le 11 n)
  where
    by : Dec (11 ≤ n) → n < 11
    by (yes k) = let z : l < 0 = subst (λ (ps : List Point). l < length ps) (no_points n k) h in omega arith
    by (no k) = omega arith

-- ---- from label to point

abbrev is_point : Point → Bool
is_point (At i q) = true
is_point Nothing = false

is_point_lem : (p : Point) → T (is_point p) → p ≡ At (level_i p) (level_q p)
is_point_lem (At i q) t = refl
is_point_lem Nothing t = absurd t

some_test : T (all 11 (λ n. every (λ l p. is_point p) 0 (points n)))
unfolding points columns tables
some_test = tt

-- a label below their number has a point
pub some_point : (n l : ℕ) → l < length (points n) → point_of n l ≡ At (level_i (point_of n l)) (level_q (point_of n l))
unfolding point_of
some_point n l h =
    let t = all_at 11 (λ n. every (λ l p. is_point p) 0 (points n)) some_test n (listed n l h) in
    is_point_lem (get_or (points n) l Nothing) (every_at (λ l p. is_point p) Nothing (points n) t l h)

abbrev reads : ℕ → ℕ → Point → Bool
reads n l p = is_at (point_in our_cells n l) (level_i p) (level_q p)

reads_test : T (all 11 (λ n. every (reads n) 0 (points n)))
unfolding point_in point_of our_cells quarter_cells words word quarter_of points columns tables
reads_test = tt

-- at a label of n bits, and at any other
within : (n l : ℕ) → l < length (points n) → point_in our_cells n l ≡ point_of n l
unfolding point_of
within n l h =
    let p = get_or (points n) l Nothing in
    let t = all_at 11 (λ n. every (reads n) 0 (points n)) reads_test n (listed n l h) in
    let r = every_at (reads n) Nothing (points n) t l h in
    is_at_lem (point_in our_cells n l) (level_i p) (level_q p) (is_true (reads n l p) r) ∙ sym (some_point n l h)

beyond : (n l : ℕ) → length (points n) ≤ l → point_in our_cells n l ≡ point_of n l
unfolding point_in point_of
beyond n l h = by (eqb n 3) refl
  where
    by : (eight : Bool) → eqb n 3 ≡ eight → cond eight (point_of 3 l) (quarter_point our_cells (quarter_of n) l) ≡ point_of n l
    by true e = ap (λ (n : ℕ). point_of n l) (sym (eqb-true n 3 e))
    by false e = rw (le-ltb l (4 * quarter_of n) (omega (arith, count n))) (sym (get_or-eq_default (points n) Nothing h))

pub point_ours : (n l : ℕ) → point_in our_cells n l ≡ point_of n l
point_ours n l = by (dec_le (length (points n)) l)
  where
    by : Dec (length (points n) ≤ l) → point_in our_cells n l ≡ point_of n l
    by (yes h) = beyond n l h
    by (no h) = within n l (omega arith)

-- ---- from point to label

-- the label guessed by our quadrants
unfoldable pub guess : ℕ → ℤ → ℤ → ℕ
guess n i q = guess_in our_quadrants n (parts_of i) (parts_of q)

guess_test : T (all 11 (λ n. tells (guess n) (points n)))
unfolding guess guess_in our_quadrants starts_from quarter_lows place_from up_from quarter_cells words word quarter_of points columns tables
guess_test = tt

pub guess_tells : (n : ℕ) → Tells (guess n) (points n)
unfolding Tells
guess_tells n = by (dec_le 11 n)
  where
    by : Dec (11 ≤ n) → Tells (guess n) (points n)
    by (yes h) = subst (Tells (guess n)) (sym (no_points n h)) (λ l i q e. no_point e)
    by (no h) = tells_is (guess n) (points n) (all_at 11 (λ n. tells (guess n) (points n)) guess_test n (omega arith))

pub label_ours : (n : ℕ) (i q : ℤ) → label_in our_cells our_quadrants n i q ≡ label_of n i q
unfolding label_in label_of point_of guess
label_ours n i q =
    ap (λ (p : Point). confirmed p (guess n i q) i q) (point_ours n (guess n i q)) ∙ look_again (guess n) (points n) (guess_tells n) i q
