-- `nearest::point_in` meets its contract, by what its callees ensure.
-- Assumes nothing.
use mathlib.Core.Path.{◌≡◌}
use mathlib.Core.List.{List}
use Prim.Native.Nat.{ℕ, ◌%◌, ◌≤◌}
use native.Mathlib.Decide.{dec_le}
use native.Mathlib.Omega.{arith}
use lib.IntN.{ℤ}
use mir.Syntax.{w16}
use mir.ValLaws.{to_z-of_z}
use borrow.Author.Tests.{le-leb, lt-leb, eq-eqb, ne_eqb}
use Rattle.points.specs.declared.Point.TheVariants.{Nothing}
use Rattle.nearest.specs.Axes.{nearest_in}
use Rattle.nearest.proofs.point_in.Goals as goal

pub returns-in-3 : goal.returns-in-3
unfolding nearest_in
returns-in-3 c =
    let i = to_z-of_z w16 c.args.i c.ranges.i in
    let q = to_z-of_z w16 c.args.q c.ranges.q in
    rw c.in-3.is (rw (c.raised-x.ensures, c.raised-y.ensures, i, q) at c.nearest.ensures)

pub returns-in-2 : goal.returns-in-2
unfolding nearest_in
returns-in-2 c =
    let n = c.args.bits in
    let i = to_z-of_z w16 c.args.i c.ranges.i in
    let q = to_z-of_z w16 c.args.q c.ranges.q in
    rw (le-leb 2 n (omega arith), le-leb n 10 (omega arith), eq-eqb (n % 2) 0 (omega arith))
    (rw (c.raised-x.ensures, c.raised-y.ensures, c.of_even.ensures, i, q) at c.nearest-in-2.ensures)

pub returns-in-5 : goal.returns-in-5
unfolding nearest_in
returns-in-5 c =
    let n = c.args.bits in
    let i = to_z-of_z w16 c.args.i c.ranges.i in
    let q = to_z-of_z w16 c.args.q c.ranges.q in
    rw (le-leb 2 n (omega arith), le-leb n 10 (omega arith), ne_eqb (n % 2) 0 (λ e. omega arith), ne_eqb n 3 (λ e. omega arith))
    (rw (c.raised-x.ensures, c.raised-y.ensures, c.of_odd.ensures, i, q) at c.nearest-in-5.ensures)

-- where no constellation has so many bits
none_in : (quadrants : List ℕ) (n : ℕ) (i q : ℤ) → (2 ≤ n → n ≤ 10 → ⊥) → Nothing ≡ nearest_in quadrants n i q
unfolding nearest_in
none_in quadrants n i q unknown = by (dec_le 2 n) (dec_le n 10)
  where
    by : Dec (2 ≤ n) → Dec (n ≤ 10) → Nothing ≡ nearest_in quadrants n i q
    by (yes low) (yes high) = absurd (unknown low high)
    by (yes low) (no high) = rw (le-leb 2 n low, lt-leb n 10 (omega arith))
    by (no low) high = rw (lt-leb 2 n (omega arith))

pub returns-in_default : goal.returns-in_default
returns-in_default c = none_in c.args.quadrants.now c.args.bits c.args.i c.args.q (λ low high. grind arith)
