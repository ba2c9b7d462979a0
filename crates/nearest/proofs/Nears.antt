-- With our table, the code's way comes to the nearest point of the constellation, whatever of sixteen bits came in.
-- Assumes nothing.
use mathlib.Core.Path.{◌≡◌, refl, sym, ◌∙◌}
use mathlib.Core.Logic.{◌≢◌}
use mathlib.Core.Bool.{Bool, true, false, cond}
use mathlib.Core.List.{List, [], ◌∷◌}
use Prim.Native.Nat.{ℕ, ◌%◌, ◌<◌, ◌≤◌}
use native.Mathlib.Decide.{dec_le}
use native.Mathlib.Omega.{arith}
use lib.Dec.{eqb}
use lib.IntN.{ℤ, nat_abs}
use lib.ListN.{length}
use borrow.Author.Tests.{eqb-true, eqb-false, le-leb, lt-leb}
use Rattle.points.specs.declared.Point.{Point}
use Rattle.points.specs.declared.Point.TheVariants.{Nothing}
use Rattle.points.specs.Constellations.{points, point_of}
use Rattle.points.specs.Lent.{quarter_of, our_quadrants}
use Rattle.points.proofs.Lending.{count}
use Rattle.nearest.specs.Nearest.{nearest}
use Rattle.nearest.specs.Axes.{raised, in_square, in_eight, in_holed, nearest_in}
use Rattle.nearest.proofs.Distances.{nearest_point, nearest_none}
use Rattle.nearest.proofs.Cells.{charted}
use Rattle.nearest.proofs.Squares.{square_near, square_label}
use Rattle.nearest.proofs.Holed.{holed_near}
use Rattle.nearest.proofs.Eights.{eight_near}

-- a table without points has no nearest
none_near : (ps : List Point) (i q : ℤ) → length ps ≡ 0 → nearest ps i q ≡ Nothing
none_near [] i q e = nearest_none i q
none_near (p ∷ ps) i q e = absurd (omega arith)

too_few : (n : ℕ) → n < 2 → length (points n) ≡ 0
unfolding quarter_of
too_few n h = count n ∙ rw (lt-leb 2 n h)

too_many : (n : ℕ) → 10 < n → length (points n) ≡ 0
unfolding quarter_of
too_many n h = count n ∙ rw (le-leb 2 n (omega arith), lt-leb n 10 h)

-- the nearest of 8QAM
eight_ours : (i q : ℤ) → nat_abs i ≤ 32768 → nat_abs q ≤ 32768 → in_eight (raised i) (raised q) ≡ nearest (points 3) i q
unfolding point_of
eight_ours i q hi hq = let at = eight_near i q hi hq in at.2 ∙ sym (nearest_point at.1)

module _ (n : ℕ) (i q : ℤ) (hi : nat_abs i ≤ 32768) (hq : nat_abs q ≤ 32768) where
  -- with an odd number of bits: 8QAM, or another
  abbrev odds : Bool → Point
  odds three = cond three (in_eight (raised i) (raised q)) (in_holed our_quadrants n (raised i) (raised q))

  holed : 2 ≤ n → n ≤ 10 → n % 2 ≢ 0 → odds (eqb n 3) ≡ nearest (points n) i q
  unfolding point_of
  holed low high odd = by (eqb n 3) refl
    where
      by : (three : Bool) → eqb n 3 ≡ three → odds three ≡ nearest (points n) i q
      by true e = rw (eqb-true n 3 e) (eight_ours i q hi hq)
      by false e =
          let at = holed_near n (charted n low high) low high (omega (arith, odd)) i q hi hq in
          at.2 ∙ sym (nearest_point at.1)

  -- with any from 2 to 10
  abbrev among : Bool → Point
  among even = cond even (in_square n (raised i) (raised q)) (odds (eqb n 3))

  within : 2 ≤ n → n ≤ 10 → among (eqb (n % 2) 0) ≡ nearest (points n) i q
  unfolding point_of
  within low high = by (eqb (n % 2) 0) refl
    where
      by : (even : Bool) → eqb (n % 2) 0 ≡ even → among even ≡ nearest (points n) i q
      by true e =
          let c = charted n low high in
          let even = eqb-true (n % 2) 0 e in
          square_label n c even (raised i) (raised q) ∙ sym (nearest_point (square_near n c even i q hi hq))
      by false e = holed low high (eqb-false (n % 2) 0 e)

  pub near_ours : nearest_in our_quadrants n i q ≡ nearest (points n) i q
  unfolding nearest_in
  near_ours = by (dec_le 2 n) (dec_le n 10)
    where
      by : Dec (2 ≤ n) → Dec (n ≤ 10) → nearest_in our_quadrants n i q ≡ nearest (points n) i q
      by (yes low) (yes high) = rw (le-leb 2 n low, le-leb n 10 high) (within low high)
      by (yes low) (no high) = rw (le-leb 2 n low, lt-leb n 10 (omega arith)) (sym (none_near (points n) i q (too_many n (omega arith))))
      by (no low) high = rw (lt-leb 2 n (omega arith)) (sym (none_near (points n) i q (too_few n (omega arith))))
