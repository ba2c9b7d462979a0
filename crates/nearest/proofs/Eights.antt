-- 8QAM: the point of the least key is the nearest of the eight, and of those as near the one of the lowest label.
-- Assumes nothing.
use mathlib.Core.Path.{◌≡◌, refl, ap, ◌∙◌}
use Prim.Native.Nat.{ℕ, zero, suc, ◌+◌, ◌*◌, ◌%◌, ◌<◌, ◌≤◌, min}
use native.Mathlib.Nat.{le_trans, min-le_left, min-le_right}
use native.Mathlib.Decide.{dec_le}
use native.Mathlib.Omega.{arith}
use lib.IntN.{ℤ, pos, negsuc, nat_abs}
use lib.ListN.{length, get_or}
use Rattle.points.specs.declared.Point.TheVariants.{At}
use Rattle.points.specs.Constellations.{tables, columns, points, point_of}
use Rattle.nearest.specs.Nearest.{far, far_at, Nearest}
use Rattle.nearest.specs.Axes.{raised, level_in, off_of, sides_i, sides_q, score_of, eight_key, least_key, in_eight}
use Rattle.nearest.proofs.Gaps.{gap}
use Rattle.nearest.proofs.Raised.{far_levels}

-- ---- the least of eight numbers

abbrev least_of : ℕ → ℕ → ℕ → ℕ → ℕ
least_of a b c d = min (min a b) (min c d)

abbrev least_in : (ℕ → ℕ) → ℕ
least_in f = min (least_of (f 0) (f 1) (f 2) (f 3)) (least_of (f 4) (f 5) (f 6) (f 7))

-- none of them is less: not of four, nor of eight
of_four : (a b c d : ℕ) → (least_of a b c d ≤ a) × (least_of a b c d ≤ b) × (least_of a b c d ≤ c) × (least_of a b c d ≤ d)
of_four a b c d = (omega arith, omega arith, omega arith, omega arith)

least_le : (f : ℕ → ℕ) (k : ℕ) → k < 8 → least_in f ≤ f k
least_le f = by (min-le_left low high) (min-le_right low high) (of_four (f 0) (f 1) (f 2) (f 3)) (of_four (f 4) (f 5) (f 6) (f 7))
  where
    low : ℕ
    low = least_of (f 0) (f 1) (f 2) (f 3)

    high : ℕ
    high = least_of (f 4) (f 5) (f 6) (f 7)

    by : least_in f ≤ low → least_in f ≤ high → (low ≤ f 0) × (low ≤ f 1) × (low ≤ f 2) × (low ≤ f 3)
        → (high ≤ f 4) × (high ≤ f 5) × (high ≤ f 6) × (high ≤ f 7) → (k : ℕ) → k < 8 → least_in f ≤ f k
    by a b l h zero t = le_trans a l.0
    by a b l h (suc zero) t = le_trans a l.1
    by a b l h (suc (suc zero)) t = le_trans a l.2
    by a b l h (suc (suc (suc zero))) t = le_trans a l.3
    by a b l h (suc (suc (suc (suc zero)))) t = le_trans b h.0
    by a b l h (suc (suc (suc (suc (suc zero))))) t = le_trans b h.1
    by a b l h (suc (suc (suc (suc (suc (suc zero)))))) t = le_trans b h.2
    by a b l h (suc (suc (suc (suc (suc (suc (suc zero))))))) t = le_trans b h.3
    by a b l h (suc (suc (suc (suc (suc (suc (suc (suc k)))))))) t = absurd (omega arith)

-- and it is one of them
record Reached (f : ℕ → ℕ) (m : ℕ) : Type 0 where
  label : ℕ
  there : label < 8
  reached : m ≡ f label

lesser : {f : ℕ → ℕ} {a b : ℕ} → Reached f a → Reached f b → Reached f (min a b)
lesser {f} {a} {b} r s = by (dec_le a b)
  where
    by : Dec (a ≤ b) → Reached f (min a b)
    by (yes h) = let e : min a b ≡ a = omega arith in record { label = r.label; there = r.there; reached = e ∙ r.reached }
    by (no h) = let e : min a b ≡ b = omega arith in record { label = s.label; there = s.there; reached = e ∙ s.reached }

least_is : (f : ℕ → ℕ) → Reached f (least_in f)
least_is f =
    lesser
    (lesser (lesser (one 0 (omega arith)) (one 1 (omega arith))) (lesser (one 2 (omega arith)) (one 3 (omega arith))))
    (lesser (lesser (one 4 (omega arith)) (one 5 (omega arith))) (lesser (one 6 (omega arith)) (one 7 (omega arith))))
  where
    one : (k : ℕ) → k < 8 → Reached f (f k)
    one k h = record { label = k; there = h; reached = refl }

-- ---- 256 times the score is the squared distance, and something that is the same for all eight

-- how far x is from level 0
abbrev amid : ℕ → ℕ
amid x = off_of 3 x 1

-- on one axis, in which the levels are the three of the stretches
score : (x j : ℕ) → x ≤ 65536 → j < 3 → off_of 3 x j * off_of 3 x j + 16777216 ≡ amid x * amid x + 256 * score_of x j
score x j hx hj = by j hj (off_of 3 x j) refl (amid x) refl
  where
    by : (j : ℕ) → j < 3 → (d : ℕ) → d ≡ off_of 3 x j → (e : ℕ) → e ≡ off_of 3 x 1 → d * d + 16777216 ≡ e * e + 256 * score_of x j
    by zero hj d f e g = omega (arith, gap x 32640 d (omega arith), gap x 32768 e (omega arith))
    by (suc zero) hj d f e g = omega (arith, gap x 32768 d (omega arith), gap x 32768 e (omega arith))
    by (suc (suc zero)) hj d f e g = omega (arith, gap x 32896 d (omega arith), gap x 32768 e (omega arith))
    by (suc (suc (suc j))) hj d f e g = absurd (omega arith)

-- raised, no number is more than 65536
raised-le : (i : ℤ) → nat_abs i ≤ 32768 → raised i ≤ 65536
raised-le (pos n) h = omega arith
raised-le (negsuc n) h = omega arith

module _ (i q : ℤ) (hi : nat_abs i ≤ 32768) (hq : nat_abs q ≤ 32768) where
  abbrev x : ℕ
  x = raised i

  abbrev y : ℕ
  y = raised q

  abbrev Scored : ℕ → ℕ → Type 0
  Scored f s = f + 33554432 ≡ amid x * amid x + amid y * amid y + 256 * s

  -- on both axes
  both : (j k : ℕ) → j < 3 → k < 3 → Scored (far i q (At (level_in 3 j) (level_in 3 k))) (score_of x j + score_of y k)
  both j k hj hk =
      rw (far_levels 3 j k i q (omega arith) hj hk hi hq)
      (omega (arith, score x j (raised-le i hi) hj, score y k (raised-le q hq) hk))

  -- and for each label
  abbrev score_at : ℕ → ℕ
  score_at k = score_of x (get_or sides_i k 0) + score_of y (get_or sides_q k 0)

  abbrev far_to : ℕ → ℕ
  far_to k = far_at (points 3) i q k

  scored : (k : ℕ) → k < 8 → Scored (far_to k) (score_at k)
  unfolding points columns tables
  scored zero h = both 2 2 (omega arith) (omega arith)
  scored (suc zero) h = both 2 1 (omega arith) (omega arith)
  scored (suc (suc zero)) h = both 1 0 (omega arith) (omega arith)
  scored (suc (suc (suc zero))) h = both 2 0 (omega arith) (omega arith)
  scored (suc (suc (suc (suc zero)))) h = both 1 2 (omega arith) (omega arith)
  scored (suc (suc (suc (suc (suc zero))))) h = both 0 2 (omega arith) (omega arith)
  scored (suc (suc (suc (suc (suc (suc zero)))))) h = both 0 0 (omega arith) (omega arith)
  scored (suc (suc (suc (suc (suc (suc (suc zero))))))) h = both 0 1 (omega arith) (omega arith)
  scored (suc (suc (suc (suc (suc (suc (suc (suc k)))))))) h = absurd (omega arith)

  -- ---- the nearest

  -- what has no greater key is as near, or nearer; and nearer than what has a lower label
  not_farther : (l k : ℕ) → l < 8 → k < 8 → eight_key x y l ≤ eight_key x y k → far_to l ≤ far_to k
  not_farther l k hl hk h =
      let a : Scored (far_to l) (score_at l) = scored l hl in
      let b : Scored (far_to k) (score_at k) = scored k hk in
      omega (arith, a, b, h)

  nearer : (l k : ℕ) → l < 8 → k < l → eight_key x y l ≤ eight_key x y k → far_to l < far_to k
  nearer l k hl hk h =
      let a : Scored (far_to l) (score_at l) = scored l hl in
      let b : Scored (far_to k) (score_at k) = scored k (omega arith) in
      omega (arith, a, b, h)

  eight_points : length (points 3) ≡ 8
  unfolding points columns tables
  eight_points = refl

  -- What the code decides on has a label, and that label is the nearest: it is at the least squared distance, and of the eight the lowest there.
  pub eight_near : (l : ℕ) × Nearest (points 3) i q l × (in_eight (raised i) (raised q) ≡ point_of 3 l)
  unfolding in_eight
  eight_near = by (least_is (eight_key x y))
    where
      by : Reached (eight_key x y) (least_key x y) → (l : ℕ) × Nearest (points 3) i q l × (in_eight (raised i) (raised q) ≡ point_of 3 l)
      by r =
          let l = r.label in
          let none : (k : ℕ) → k < 8 → eight_key x y l ≤ eight_key x y k = λ k h. rw (← r.reached) (least_le (eight_key x y) k h) in
          let rest : least_key x y % 8 ≡ l = rw r.reached (omega (arith, r.there)) in
          let near : Nearest (points 3) i q l = record {
            there = rw eight_points r.there;
            least = λ k h. not_farther l k r.there (rw eight_points at h) (none k (rw eight_points at h));
            lowest = λ k h. let b : k < 8 = omega (arith, r.there) in nearer l k r.there h (none k b);
          } in
          (l, near, ap (point_of 3) rest)
