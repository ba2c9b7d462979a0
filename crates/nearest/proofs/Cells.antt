-- Each of the nine constellations is charted by its stretches: they are fixed tables, and what is said of them is tried by computation.
-- At which stretches points stand is tried of each point, and which way lines go of each pair of stretches. That a point stands at each pair but a hole
-- follows from the sizes of their levels (points/proofs/Legal), and these are tried of an axis alone.
-- Assumes nothing.
use mathlib.Core.Path.{◌≡◌, sym, subst, ◌∙◌}
use mathlib.Core.Bool.{Bool, true, false, cond, not, ◌&&◌}
use Prim.Native.Nat.{ℕ, zero, suc, ◌+◌, ◌-◌, ◌*◌, ◌/◌, ◌%◌, ◌<◌, ◌≤◌}
use native.Mathlib.Omega.{arith}
use lib.Dec.{T, eqb, leb, ltb, eqb→eq, leb→le, ltb→lt}
use lib.IntN.{ℤ, pos, negsuc, nat_abs}
use lib.ListN.{length, get_or}
use borrow.Author.Tests.{eq-eqb, le-leb, not-true}
use Rattle.ground.specs.First.{up_from}
use Rattle.points.specs.declared.Point.{Point}
use Rattle.points.specs.declared.Point.TheVariants.{At, Nothing}
use Rattle.points.specs.Constellations.{tables, columns, points, point_of, is_at, level_i, level_q}
use Rattle.points.specs.Lent.{quarter_of, guess_in, read_in, quarter_cells, word, words, place_from, starts_from, quarter_lows, our_quadrants}
use Rattle.points.specs.Sizes.{most_of, odd_of, Sized}
use Rattle.ground.proofs.Tests.{both, all, all_at, every, every_at, is_true}
use Rattle.points.proofs.Places.{is_at_lem, in_list, Tells}
use Rattle.points.proofs.Lending.{count, guess, guess_tells}
use Rattle.points.proofs.Legal.{read_label, sized_legal}
use Rattle.points.proofs.Rules.{point_of_label}
use Rattle.nearest.specs.Axes.{width_of, level_in, lines_of, is_hole}
use Rattle.nearest.proofs.Charts.{label_for, Solid, Stands, towards, away, Charted}

-- ---- how many levels and points there are

two_test : T (all 11 (λ n. cond (leb 2 n) (leb 2 (width_of n)) true))
unfolding width_of
two_test = tt

most_test : T (all 11 (λ n. leb (width_of n) 32))
unfolding width_of
most_test = tt

thirds_test : T (all 11 (λ n. cond (eqb (n % 2) 1) (eqb (width_of n % 3) 0) true))
unfolding width_of
thirds_test = tt

few_test : T (all 11 (λ n. leb (4 * quarter_of n) 1024))
unfolding quarter_of
few_test = tt

-- ---- the stretch of a level

abbrev place_in : ℕ → ℤ → ℕ
place_in w (pos a) = (w + a - 1) / 2
place_in w (negsuc a) = (w - 2 - a) / 2

-- a point stands at the stretches of its levels, and at no hole where n is odd
abbrev seated : ℕ → ℕ → Point → Bool
seated n l p =
    let w = width_of n in
    let j = place_in w (level_i p) in
    let k = place_in w (level_q p) in
    ltb j w && (ltb k w && (cond (eqb (n % 2) 1) (not (is_hole j k)) true && is_at p (level_in w j) (level_in w k)))

seated_test : T (all 11 (λ n. every (seated n) 0 (points n)))
unfolding width_of points columns tables
seated_test = tt

-- ---- the size of the level of a stretch

-- it is at most the largest; odd, or for 8QAM even; and where n is odd divisible by 3 only in the middle of three stretches
abbrev fits : ℕ → ℕ → Bool
fits n j =
    let e = nat_abs (level_in (width_of n) j) in
    leb e (most_of n) && (eqb (e % 2) (odd_of n) && cond (eqb (n % 2) 1 && eqb (e % 3) 0) (eqb (j % 3) 1) true)

fits_test : T (all 11 (λ n. all (width_of n) (fits n)))
unfolding width_of most_of odd_of
fits_test = tt

-- ---- the lines of full squares

-- at column k the line before stretch j + 1 of I goes to the lower label; at row j that before stretch k + 1 of Q
abbrev lower_i : ℕ → ℕ → ℕ → Bool
lower_i n k j = leb (label_for n (towards n (suc j)) k) (label_for n (away n (suc j)) k)

abbrev lower_q : ℕ → ℕ → ℕ → Bool
lower_q n j k = leb (label_for n j (towards n (suc k))) (label_for n j (away n (suc k)))

-- the test passes at each line of a full square, all along it
abbrev lines : (ℕ → ℕ → ℕ → Bool) → ℕ → Bool
lines lower n = cond (eqb (n % 2) 0) (all (width_of n) (λ a. all (width_of n - 1) (lower n a))) true

lines_i_test : T (all 11 (lines lower_i))
unfolding label_for width_of lines_of read_in guess_in our_quadrants starts_from quarter_lows place_from up_from quarter_cells words word quarter_of points columns tables
lines_i_test = tt

lines_q_test : T (all 11 (lines lower_q))
unfolding label_for width_of lines_of read_in guess_in our_quadrants starts_from quarter_lows place_from up_from quarter_cells words word quarter_of points columns tables
lines_q_test = tt

-- ---- what the tests say of one constellation

-- a test that is made only where a is b
under : (a b : ℕ) (t : Bool) → T (cond (eqb a b) t true) → a ≡ b → T t
under a b t c e = subst (λ (h : Bool). T (cond h t true)) (eq-eqb a b e) c

module _ (n : ℕ) (a : 2 ≤ n) (b : n ≤ 10) where
  below : n < 11
  below = omega arith

  two_levels : 2 ≤ width_of n
  two_levels =
      let t = all_at 11 (λ n. cond (leb 2 n) (leb 2 (width_of n)) true) two_test n below in
      leb→le 2 (width_of n) (rw (le-leb 2 n a) at t)

  most_levels : width_of n ≤ 32
  most_levels = leb→le (width_of n) 32 (all_at 11 (λ n. leb (width_of n) 32) most_test n below)

  in_thirds : n % 2 ≡ 1 → width_of n % 3 ≡ 0
  in_thirds e =
      let t = all_at 11 (λ n. cond (eqb (n % 2) 1) (eqb (width_of n % 3) 0) true) thirds_test n below in
      eqb→eq (width_of n % 3) 0 (under (n % 2) 1 (eqb (width_of n % 3) 0) t e)

  few_points : length (points n) ≤ 1024
  few_points =
      let h : 4 * quarter_of n ≤ 1024 = leb→le (4 * quarter_of n) 1024 (all_at 11 (λ n. leb (4 * quarter_of n) 1024) few_test n below) in
      omega (arith, count n)

  -- each point stands at the stretches of its levels
  stood : (l : ℕ) → l < length (points n) → (j : ℕ) × (k : ℕ) × Stands n l j k
  unfolding point_of
  stood l h =
      let w = width_of n in
      let p = get_or (points n) l Nothing in
      let j = place_in w (level_i p) in
      let k = place_in w (level_q p) in
      let hole = cond (eqb (n % 2) 1) (not (is_hole j k)) true in
      let at = is_at p (level_in w j) (level_in w k) in
      let s = every_at (seated n) Nothing (points n) (all_at 11 (λ n. every (seated n) 0 (points n)) seated_test n below) l h in
      let t = both (ltb j w) (ltb k w && (hole && at)) s in
      let u = both (ltb k w) (hole && at) t.1 in
      let v = both hole at u.1 in
      let solid : Solid n j k = record {
        low_j = ltb→lt j w t.0;
        low_k = ltb→lt k w u.0;
        no_hole = λ e. not-true (is_hole j k) (is_true (not (is_hole j k)) (under (n % 2) 1 (not (is_hole j k)) v.0 e));
      } in
      (j, k, record { solid = solid; there = is_at_lem p (level_in w j) (level_in w k) (is_true at v.1) })

  fit : (j : ℕ) → j < width_of n → let e = nat_abs (level_in (width_of n) j) in (e ≤ most_of n) × (e % 2 ≡ odd_of n) × (n % 2 ≡ 1 → e % 3 ≡ 0 → j % 3 ≡ 1)
  fit j h =
      let e = nat_abs (level_in (width_of n) j) in
      let third = cond (eqb (n % 2) 1 && eqb (e % 3) 0) (eqb (j % 3) 1) true in
      let s = all_at (width_of n) (fits n) (all_at 11 (λ n. all (width_of n) (fits n)) fits_test n below) j h in
      let t = both (leb e (most_of n)) (eqb (e % 2) (odd_of n) && third) s in
      let u = both (eqb (e % 2) (odd_of n)) third t.1 in
      let middle : n % 2 ≡ 1 → e % 3 ≡ 0 → j % 3 ≡ 1 = λ o d. eqb→eq (j % 3) 1 (rw (eq-eqb (n % 2) 1 o, eq-eqb (e % 3) 0 d) at u.1) in
      (leb→le e (most_of n) t.0, eqb→eq (e % 2) (odd_of n) u.0, middle)

  module _ {j k : ℕ} (s : Solid n j k) where
    abbrev i : ℤ
    i = level_in (width_of n) j

    abbrev q : ℤ
    q = level_in (width_of n) k

    sized : Sized n i q
    sized =
        let of_j = fit j s.low_j in
        let of_k = fit k s.low_k in
        record {
          few = b;
          low_i = of_j.0;
          low_q = of_k.0;
          odd_i = of_j.1;
          odd_q = of_k.1;
          no_hole = λ o d e.
              let hole : is_hole j k ≡ true = rw (eq-eqb (j % 3) 1 (of_j.2 o d), eq-eqb (k % 3) 1 (of_k.2 o e)) in
              let z : ◌≡◌ {A = Bool} true false = sym hole ∙ s.no_hole o in
              subst T z tt;
        }

    -- the point of the label that two stretches are read as stands there
    labelled : point_of n (label_for n j k) ≡ At i q
    unfolding label_for
    labelled = point_of_label n (label_for n j k) i q (read_label n i q (sized_legal n i q sized))

    low : label_for n j k < length (points n)
    unfolding point_of
    low = in_list (points n) i q (label_for n j k) labelled

  read_guess : (i q : ℤ) → read_in our_quadrants n i q ≡ guess n i q
  unfolding read_in guess
  read_guess i q = rw (le-leb 2 n a, le-leb n 10 b)

  -- the label of a point that stands at two stretches is what they are read as
  labels : {l j k : ℕ} → Stands n l j k → label_for n j k ≡ l
  unfolding label_for point_of Tells
  labels {l} {j} {k} s =
      let i = level_in (width_of n) j in
      let q = level_in (width_of n) k in
      read_guess i q ∙ guess_tells n l i q s.there

  -- a test of the lines of a full square
  lined : (lower : ℕ → ℕ → ℕ → Bool) → T (all 11 (lines lower)) → n % 2 ≡ 0 → (a b : ℕ) → a < width_of n → suc b < width_of n → T (lower n a b)
  lined lower t e a b low_a low_b =
      let w = width_of n in
      let s = under (n % 2) 0 (all w (λ a. all (w - 1) (lower n a))) (all_at 11 (lines lower) t n below) e in
      all_at (w - 1) (lower n a) (all_at w (λ a. all (w - 1) (lower n a)) s a low_a) b (omega arith)

  line_i : n % 2 ≡ 0 → (j k : ℕ) → 0 < j → j < width_of n → k < width_of n → label_for n (towards n j) k ≤ label_for n (away n j) k
  line_i e zero k more low_j low_k = absurd (omega arith)
  line_i e (suc j) k more low_j low_k =
      leb→le (label_for n (towards n (suc j)) k) (label_for n (away n (suc j)) k) (lined lower_i lines_i_test e k j low_k low_j)

  line_q : n % 2 ≡ 0 → (j k : ℕ) → j < width_of n → 0 < k → k < width_of n → label_for n j (towards n k) ≤ label_for n j (away n k)
  line_q e j zero low_j more low_k = absurd (omega arith)
  line_q e j (suc k) low_j more low_k =
      leb→le (label_for n j (towards n (suc k))) (label_for n j (away n (suc k))) (lined lower_q lines_q_test e j k low_j low_k)

-- what `Charted` says holds of each of the nine
pub charted : (n : ℕ) → 2 ≤ n → n ≤ 10 → Charted n
charted n a b = record {
  two = two_levels n a b;
  most = most_levels n a b;
  thirds = in_thirds n a b;
  few = few_points n a b;
  stands = stood n a b;
  label_low = λ s. low n a b s;
  label_there = λ s. labelled n a b s;
  label_is = λ s. labels n a b s;
  lines_i = line_i n a b;
  lines_q = line_q n a b;
}
