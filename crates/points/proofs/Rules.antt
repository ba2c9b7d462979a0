-- The rules that document 01 ("Payload B on the wire") has each table of Annex B meet: each rule is a law over any list of points or any n,
-- and holds of the nine tables by a test that is computed over them. Assumes nothing.
use mathlib.Core.Path.{◌≡◌, refl, sym, ap, subst, ◌∙◌}
use mathlib.Core.Bool.{Bool, true, ◌||◌, cond}
use mathlib.Core.List.{map}
use Prim.Native.Nat.{ℕ, ◌+◌, ◌-◌, ◌*◌, ◌/◌, ◌%◌, ◌^◌, ◌<◌, ◌≤◌}
use native.Mathlib.Omega.{arith}
use lib.Dec.{T, eqb, eqb→eq}
use lib.IntN.{ℤ, neg_ℤ}
use lib.ListN.{length, get_or}
use lib.Pow.{pow-add}
use borrow.Author.Tests.{eq-eqb, ne_eqb, le-leb}
use Rattle.std.specs.Prelude.{Some}
use Rattle.points.specs.declared.Point.{Point}
use Rattle.points.specs.declared.Point.TheVariants.{At, Nothing}
use Rattle.points.specs.Constellations.{tables, columns, points, point_of, label_of, is_at, level_i, level_q}
use Rattle.points.specs.Lent.{quarter_of, point_in, quarter_cells, word, words, our_cells}
use Rattle.points.specs.Rules.{printed, square, squares, factors, walk, border, beside, round, times}
use Rattle.ground.proofs.Tests.{all, all_at, all_equal, every, every_at, is_true}
use Rattle.points.proofs.Places as places
use Rattle.points.proofs.Places.{is_at_lem, in_list}
use Rattle.points.proofs.Lending.{count, listed, some_point, point_ours, guess, guess_tells}

-- ---- 2^n different points

pub points_count : (n : ℕ) → 2 ≤ n → n ≤ 10 → length (points n) ≡ 2 ^ n
unfolding quarter_of
points_count n a b =
    let quarter : quarter_of n ≡ 2 ^ (n - 2) = rw (le-leb 2 n a, le-leb n 10 b) in
    let whole : 2 + (n - 2) ≡ n = omega arith in
    count n ∙ ap (λ (q : ℕ). 4 * q) quarter ∙ sym (pow-add 2 2 (n - 2)) ∙ ap (λ (m : ℕ). 2 ^ m) whole

pub points_differ : (n l m : ℕ) (i q : ℤ) → point_of n l ≡ At i q → point_of n m ≡ At i q → l ≡ m
unfolding point_of
points_differ n = places.differ (guess n) (points n) (guess_tells n)

-- every label of n bits has a point
pub has_point : (n l : ℕ) → 2 ≤ n → n ≤ 10 → l < 2 ^ n → point_of n l ≡ At (level_i (point_of n l)) (level_q (point_of n l))
has_point n l a b h = some_point n l (subst (λ (m : ℕ). l < m) (sym (points_count n a b)) h)

-- ---- label to point to label, and point to label to point

pub label_of_point : (n l : ℕ) (i q : ℤ) → point_of n l ≡ At i q → label_of n i q ≡ Some l
unfolding point_of label_of
label_of_point n = places.label_of_point (guess n) (points n) (guess_tells n)

pub point_of_label : (n l : ℕ) (i q : ℤ) → label_of n i q ≡ Some l → point_of n l ≡ At i q
unfolding point_of label_of
point_of_label n l i q = places.point_of_label (points n) i q l

-- the label of a point has n bits
pub label_lt : (n l : ℕ) (i q : ℤ) → 2 ≤ n → n ≤ 10 → label_of n i q ≡ Some l → l < 2 ^ n
unfolding point_of
label_lt n l i q a b e =
    subst (λ (m : ℕ). l < m) (points_count n a b) (in_list (points n) i q l (point_of_label n l i q e))

-- ---- the sums of squares

squares_test : T (all 11 (λ n. eqb (squares (points n)) (2 ^ n * get_or factors n 0)))
unfolding square squares factors points columns tables
squares_test = tt

pub squares_sum : (n : ℕ) → n ≤ 10 → squares (points n) ≡ 2 ^ n * get_or factors n 0
squares_sum n h = all_equal 11 (λ n. squares (points n)) (λ n. 2 ^ n * get_or factors n 0) squares_test n (omega arith)

-- ---- setting a bit negates a level

-- where the bit worth s is clear in l, the point at s + l, read in our cells, is what f makes of p, the point at l
negates : ℕ → ℕ → (Point → Point) → ℕ → Point → Bool
negates n s f l p = cond (eqb (l / s % 2) 0) (is_at (point_in our_cells n (s + l)) (level_i (f p)) (level_q (f p))) true

setting : ℕ → ℕ → (Point → Point) → Bool
setting n s f = every (negates n s f) 0 (points n)

setting_at : (n s : ℕ) (f : Point → Point) → T (setting n s f) →
    (l : ℕ) (i q : ℤ) → l / s % 2 ≡ 0 → point_of n l ≡ At i q → point_of n (s + l) ≡ At (level_i (f (At i q))) (level_q (f (At i q)))
unfolding negates setting point_of
setting_at n s f t l i q clear e =
    let r = every_at (negates n s f) Nothing (points n) t l (in_list (points n) i q l e) in
    sym (point_ours n (s + l)) ∙ is_at_lem (point_in our_cells n (s + l)) _ _ (is_true _ (rw (e, eq-eqb (l / s % 2) 0 clear) at r))

abbrev negated_i : Point → Point
negated_i p = At (neg_ℤ (level_i p)) (level_q p)

abbrev negated_q : Point → Point
negated_q p = At (level_i p) (neg_ℤ (level_q p))

first_test : T (all 11 (λ n. eqb n 3 || setting n (2 ^ (n - 1)) negated_i))
unfolding negates setting point_in our_cells quarter_cells words word quarter_of points columns tables
first_test = tt

second_test : T (all 11 (λ n. eqb n 3 || setting n (2 ^ (n - 2)) negated_q))
unfolding negates setting point_in our_cells quarter_cells words word quarter_of points columns tables
second_test = tt

-- a test of every n but 3, at one of them that has a point
but_eight : (test : ℕ → Bool) → T (all 11 (λ n. eqb n 3 || test n)) →
    (n l : ℕ) (i q : ℤ) → (n ≡ 3 → ⊥) → point_of n l ≡ At i q → T (test n)
unfolding point_of
but_eight test t n l i q no3 e =
    rw (ne_eqb n 3 no3) at (all_at 11 (λ n. eqb n 3 || test n) t n (listed n l (in_list (points n) i q l e)))

pub first_bit_negates : (n l : ℕ) (i q : ℤ) → (n ≡ 3 → ⊥) → l / 2 ^ (n - 1) % 2 ≡ 0 →
    point_of n l ≡ At i q → point_of n (2 ^ (n - 1) + l) ≡ At (neg_ℤ i) q
first_bit_negates n l i q no3 clear e =
    setting_at n (2 ^ (n - 1)) negated_i (but_eight (λ n. setting n (2 ^ (n - 1)) negated_i) first_test n l i q no3 e) l i q clear e

pub second_bit_negates : (n l : ℕ) (i q : ℤ) → (n ≡ 3 → ⊥) → l / 2 ^ (n - 2) % 2 ≡ 0 →
    point_of n l ≡ At i q → point_of n (2 ^ (n - 2) + l) ≡ At i (neg_ℤ q)
second_bit_negates n l i q no3 clear e =
    setting_at n (2 ^ (n - 2)) negated_q (but_eight (λ n. setting n (2 ^ (n - 2)) negated_q) second_test n l i q no3 e) l i q clear e

-- ---- 8QAM walks once round the square

-- the walk goes from point to point beside it and back to the first
pub walk-round : T (round (point_of 3 0b000) (map (point_of 3) walk))
unfolding walk border beside round point_of points columns tables
walk-round = tt

once_test : T (all 8 (λ l. eqb (times l walk) 1))
unfolding walk times
once_test = tt

-- and comes by each label once
pub walk_once : (l : ℕ) → l < 8 → times l walk ≡ 1
walk_once l h = all_equal 8 (λ l. times l walk) (λ l. 1) once_test l h

pub walk-length : length walk ≡ 8
unfolding walk
walk-length = refl

-- ---- the labels as they are printed

in_order : ℕ → Bool
in_order n = every (λ k l. eqb l k) 0 (printed n)

order_test : T (all 11 in_order)
unfolding in_order printed tables
order_test = tt

-- the label printed at each place is that place
pub printed_label : (n k : ℕ) → n ≤ 10 → k < length (printed n) → get_or (printed n) k 0 ≡ k
unfolding in_order
printed_label n k a b =
    let t = all_at 11 in_order order_test n (omega arith) in
    eqb→eq (get_or (printed n) k 0) k (every_at (λ k l. eqb l k) 0 (printed n) t k b)

many_test : T (all 11 (λ n. eqb (length (printed n)) (length (points n))))
unfolding printed points columns tables
many_test = tt

pub printed_count : (n : ℕ) → n ≤ 10 → length (printed n) ≡ length (points n)
printed_count n a = all_equal 11 (λ n. length (printed n)) (λ n. length (points n)) many_test n (omega arith)
