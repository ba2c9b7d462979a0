-- Distances, raised: the distance of what came in to a point's level is that to the middle of the point's stretch.
-- Assumes nothing.
use mathlib.Core.Path.{◌≡◌, refl, ap, ◌∙◌}
use mathlib.Core.Bool.{Bool, true, false, cond}
use Prim.Native.Nat.{ℕ, zero, suc, ◌+◌, ◌-◌, ◌*◌, ◌<◌, ◌≤◌}
use native.Mathlib.Omega.{arith}
use lib.Dec.{ltb}
use lib.IntN.{ℤ, pos, negsuc, nat_abs, neg_ℤ, sub_ℕ, ◌-ℤ◌, ◌*ℤ◌}
use borrow.Author.Tests.{ltb-true, ltb-false}
use Rattle.points.specs.declared.Point.TheVariants.{At}
use Rattle.points.specs.Rules.{square}
use Rattle.nearest.specs.Nearest.{far}
use Rattle.nearest.specs.Axes.{raised, edge_of, level_in, off_of, far_of}

-- how far two natural numbers are apart
abbrev apart : ℕ → ℕ → ℕ
apart a b = (a - b) + (b - a)

abs_sub : (a b : ℕ) → nat_abs (sub_ℕ a b) ≡ apart a b
abs_sub a b = by (ltb a b) refl
  where
    by : (t : Bool) → ltb a b ≡ t → nat_abs (cond t (negsuc (b - suc a)) (pos (a - b))) ≡ apart a b
    by true e = let h : a < b = ltb-true a b e in omega arith
    by false e = let h : b ≤ a = ltb-false a b e in omega arith

-- the difference of two whole numbers is that of them raised
apart-raised : (x y : ℤ) → nat_abs x ≤ 32768 → nat_abs y ≤ 32768 → nat_abs (x -ℤ y) ≡ apart (raised y) (raised x)
apart-raised (pos a) (pos zero) hx hy = omega arith
apart-raised (pos a) (pos (suc b)) hx hy = abs_sub a (suc b) ∙ omega arith
apart-raised (pos a) (negsuc b) hx hy = omega arith
apart-raised (negsuc a) (pos zero) hx hy = abs_sub 0 (suc a) ∙ omega arith
apart-raised (negsuc a) (pos (suc b)) hx hy = omega arith
apart-raised (negsuc a) (negsuc b) hx hy = abs_sub (suc b) (suc a) ∙ omega arith

neg_pos : (t : ℕ) → 0 < t → neg_ℤ (pos t) ≡ negsuc (t - 1)
neg_pos zero h = absurd (omega arith)
neg_pos (suc t) h = let e : t ≡ suc t - 1 = omega arith in ap negsuc e

record Middle (w j : ℕ) (z : ℤ) : Type 0 where
  small : nat_abs z ≤ 32768
  middle : raised z ≡ edge_of w j + 64

-- the level of a stretch, in sixty-fourths, is its middle
level_middle : (w j : ℕ) → w ≤ 32 → j < w → Middle w j (pos 64 *ℤ level_in w j)
level_middle w j hw hj = by (ltb (2 * j + 1) w) refl
  where
    negative : (m : ℕ) → m ≡ w - suc (2 * j + 1) → 2 * j + 1 < w → Middle w j (neg_ℤ (pos (64 * suc m)))
    negative m e h =
        let p : 0 < 64 * suc m = omega arith in
        rw (neg_pos (64 * suc m) p) record { small = omega arith; middle = omega arith }

    by : (t : Bool) → ltb (2 * j + 1) w ≡ t → Middle w j (pos 64 *ℤ cond t (negsuc (w - suc (2 * j + 1))) (pos (2 * j + 1 - w)))
    by true e = negative (w - suc (2 * j + 1)) refl (ltb-true (2 * j + 1) w e)
    by false e = let h : w ≤ 2 * j + 1 = ltb-false (2 * j + 1) w e in record { small = omega arith; middle = omega arith }

-- on one axis: how far a number of sixteen bits is from the level of a stretch
pub off_level : (w j : ℕ) (i : ℤ) → w ≤ 32 → j < w → nat_abs i ≤ 32768 → nat_abs (pos 64 *ℤ level_in w j -ℤ i) ≡ off_of w (raised i) j
off_level w j i hw hj hi =
    let m = level_middle w j hw hj in
    apart-raised (pos 64 *ℤ level_in w j) i m.small hi ∙ ap (λ (c : ℕ). apart (raised i) c) m.middle

-- and on both: the squared distance to the point of two stretches
pub far_levels : (w j k : ℕ) (i q : ℤ) → w ≤ 32 → j < w → k < w → nat_abs i ≤ 32768 → nat_abs q ≤ 32768
    → far i q (At (level_in w j) (level_in w k)) ≡ far_of w (raised i) (raised q) j k
unfolding far square
far_levels w j k i q hw hj hk hi hq =
    ap (λ (m : ℕ). m * m + nat_abs (pos 64 *ℤ level_in w k -ℤ q) * nat_abs (pos 64 *ℤ level_in w k -ℤ q)) (off_level w j i hw hj hi)
    ∙ ap (λ (m : ℕ). off_of w (raised i) j * off_of w (raised i) j + m * m) (off_level w k q hw hk hq)
