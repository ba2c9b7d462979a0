-- The least distances of the ten constellations: no two points of Annex B are nearer to each other than 2 levels, and of DQPSK than the root of 2.
-- The pairs are not tried. All levels of a table are odd, or all even, so that two that differ are at least 2 apart; and two labels have two points.
-- Assumes nothing.
use mathlib.Core.Path.{◌≡◌, refl, sym, ap, subst, ◌∙◌}
use mathlib.Core.Bool.{Bool, ◌&&◌, ◌||◌}
use mathlib.Core.Logic.{◌≢◌}
use Prim.Native.Nat.{ℕ, ◌+◌, ◌-◌, ◌%◌, ◌<◌, ◌≤◌}
use native.Mathlib.Nat.{mul-le-mul}
use native.Mathlib.Omega.{arith}
use lib.Dec.{T, eqb, leb, ltb, eqb→eq, leb→le, ltb→lt}
use lib.IntN.{ℤ, pos, negsuc, nat_abs, ◌-ℤ◌, ℤ_discrete}
use lib.ListN.{length, get_or}
use borrow.Author.Tests.{ne_eqb}
use Rattle.ground.proofs.Tests.{both, all, all_at, every, every_at}
use Rattle.points.specs.declared.Point.{Point}
use Rattle.points.specs.declared.Point.TheVariants.{Nothing}
use Rattle.points.specs.Constellations.{tables, columns, points, point_of, level_i, level_q}
use Rattle.points.specs.Dqpsk.{phases}
use Rattle.points.specs.Rules.{square}
use Rattle.points.specs.Sizes.{odd_of}
use Rattle.points.proofs.Lending.{some_point}
use Rattle.points.proofs.Rules.{points_differ}
use Rattle.nearest.specs.Margins.{apart, apart_at, Spaced}
use Rattle.nearest.proofs.Margins.{abs_diff}

-- ---- two levels that differ, both odd or both even

two_apart : (x y : ℤ) → nat_abs x % 2 ≡ nat_abs y % 2 → x ≢ y → 2 ≤ nat_abs (x -ℤ y)
two_apart (pos a) (pos b) e other = let differ : a ≡ b → ⊥ = λ s. other (ap pos s) in omega (arith, abs_diff (pos a) (pos b))
two_apart (pos a) (negsuc b) e other = omega (arith, abs_diff (pos a) (negsuc b))
two_apart (negsuc a) (pos b) e other = omega (arith, abs_diff (negsuc a) (pos b))
two_apart (negsuc a) (negsuc b) e other = let differ : a ≡ b → ⊥ = λ s. other (ap negsuc s) in omega (arith, abs_diff (negsuc a) (negsuc b))

four_apart : (x y : ℤ) → nat_abs x % 2 ≡ nat_abs y % 2 → x ≢ y → 4 ≤ square (x -ℤ y)
unfolding square
four_apart x y e other = mul-le-mul (two_apart x y e other) (two_apart x y e other)

-- ---- the nine tables of Annex B

-- both levels of a point are as odd as those of its table
abbrev alike : ℕ → ℕ → Point → Bool
alike n l p = eqb (nat_abs (level_i p) % 2) (odd_of n) && eqb (nat_abs (level_q p) % 2) (odd_of n)

alike_test : T (all 11 (λ n. every (alike n) 0 (points n)))
unfolding odd_of points columns tables
alike_test = tt

-- the first two labels of each table are there, and 2 levels apart
abbrev first_two : ℕ → Bool
first_two n = ltb 1 (length (points n)) && eqb (apart_at (points n) 0 1) 4

first_two_test : T (all 9 (λ m. first_two (2 + m)))
unfolding apart square points columns tables
first_two_test = tt

module _ (n : ℕ) (low : 2 ≤ n) (high : n ≤ 10) where
  odds : (l : ℕ) → l < length (points n) →
      (nat_abs (level_i (point_of n l)) % 2 ≡ odd_of n) × (nat_abs (level_q (point_of n l)) % 2 ≡ odd_of n)
  unfolding point_of
  odds l h =
      let p = get_or (points n) l Nothing in
      let t = every_at (alike n) Nothing (points n) (all_at 11 (λ n. every (alike n) 0 (points n)) alike_test n (omega arith)) l h in
      let b = both (eqb (nat_abs (level_i p) % 2) (odd_of n)) (eqb (nat_abs (level_q p) % 2) (odd_of n)) t in
      (eqb→eq (nat_abs (level_i p) % 2) (odd_of n) b.0, eqb→eq (nat_abs (level_q p) % 2) (odd_of n) b.1)

  -- two labels have two points
  not_both : (k l : ℕ) → k < length (points n) → l < length (points n) → k ≢ l →
      level_i (point_of n k) ≡ level_i (point_of n l) → level_q (point_of n k) ≡ level_q (point_of n l) → ⊥
  not_both k l a b other i q =
      let p = some_point n k a in
      let r = some_point n l b in
      other (points_differ n k l (level_i (point_of n l)) (level_q (point_of n l)) (p ∙ cc (i, q)) r)

  least : (k l : ℕ) → k < length (points n) → l < length (points n) → k ≢ l → 4 ≤ apart_at (points n) k l
  unfolding apart point_of
  least k l a b other = by (ℤ_discrete (level_i p) (level_i r))
    where
      p : Point
      p = point_of n k

      r : Point
      r = point_of n l

      by : Dec (level_i p ≡ level_i r) → 4 ≤ square (level_i p -ℤ level_i r) + square (level_q p -ℤ level_q r)
      by (yes e) = omega (arith, four_apart (level_q p) (level_q r) ((odds k a).1 ∙ sym (odds l b).1) (λ f. not_both k l a b other e f))
      by (no e) = omega (arith, four_apart (level_i p) (level_i r) ((odds k a).0 ∙ sym (odds l b).0) e)

  two_first : T (ltb 1 (length (points n))) × T (eqb (apart_at (points n) 0 1) 4)
  two_first =
      let e : 2 + (n - 2) ≡ n = omega arith in
      let t = all_at 9 (λ m. first_two (2 + m)) first_two_test (n - 2) (omega arith) in
      both (ltb 1 (length (points n))) (eqb (apart_at (points n) 0 1) 4) (subst (λ (m : ℕ). T (first_two m)) e t)

  more : 1 < length (points n)
  more = ltb→lt 1 (length (points n)) two_first.0

-- the points of Annex B with n bits are no nearer to each other than 2 levels, for each n from 2 to 10
pub spaced : (n : ℕ) → 2 ≤ n → n ≤ 10 → Spaced (points n) 4
spaced n low high = record {
  least = least n low high;
  one = 0;
  other = 1;
  one_there = omega (arith, more n low high);
  other_there = more n low high;
  two = λ e. omega arith;
  reached = eqb→eq (apart_at (points n) 0 1) 4 (two_first n low high).1;
}

-- ---- the four phases of DQPSK

phases_test : T (all 4 (λ k. all 4 (λ l. eqb k l || leb 2 (apart_at phases k l))))
unfolding phases apart square
phases_test = tt

phases_least : (k l : ℕ) → k < 4 → l < 4 → k ≢ l → 2 ≤ apart_at phases k l
phases_least k l a b other =
    let t = all_at 4 (λ k. all 4 (λ l. eqb k l || leb 2 (apart_at phases k l))) phases_test k a in
    let u = all_at 4 (λ l. eqb k l || leb 2 (apart_at phases k l)) t l b in
    leb→le 2 (apart_at phases k l) (rw (ne_eqb k l other) at u)

-- the four phases are no nearer to each other than the root of 2
pub spaced_phases : Spaced phases 2
unfolding phases apart square
spaced_phases = record {
  least = phases_least;
  one = 0;
  other = 1;
  one_there = omega arith;
  other_there = omega arith;
  two = λ e. omega arith;
  reached = refl;
}
