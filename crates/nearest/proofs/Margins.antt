-- Within half the least distance of a table every decision stands, once over any table: a point moved by less is read as itself.
-- Assumes nothing.
use mathlib.Core.Path.{◌≡◌, refl, ap, subst, ◌∙◌}
use mathlib.Core.Bool.{Bool, true, false, cond}
use mathlib.Core.Logic.{◌≢◌}
use mathlib.Core.List.{List}
use Prim.Native.Nat.{ℕ, zero, suc, ◌+◌, ◌-◌, ◌*◌, ◌<◌, ◌≤◌}
use native.Mathlib.Decide.{dec_le, ℕ_discrete}
use native.Mathlib.Nat.{add_comm, mul_comm, mul_assoc, mul_left_comm, mul-add, add-mul, mul-le-mul}
use native.Mathlib.Omega.{arith}
use lib.Dec.{ltb}
use lib.IntN.{ℤ, pos, negsuc, nat_abs, neg_ℤ, sub_ℕ, ◌-ℤ◌, ◌*ℤ◌, +ℤ_invr}
use lib.ListN.{length, get_or}
use borrow.Author.Tests.{ltb-true, ltb-false}
use Rattle.points.specs.declared.Point.{Point}
use Rattle.points.specs.declared.Point.TheVariants.{Nothing}
use Rattle.points.specs.Constellations.{level_i, level_q}
use Rattle.points.specs.Rules.{square}
use Rattle.nearest.specs.Nearest.{far, nearest_label, far_at}
use Rattle.nearest.specs.Margins.{apart, Spaced, Moved}
use Rattle.nearest.proofs.Distances.{nearest_once}

-- ---- whole numbers as two naturals: how far above 0, and how far below

abbrev pub above : ℤ → ℕ
above (pos n) = n
above (negsuc n) = 0

abbrev pub below : ℤ → ℕ
below (pos n) = 0
below (negsuc n) = suc n

-- the distance of two naturals
abbrev pub between : ℕ → ℕ → ℕ
between a b = (a - b) + (b - a)

abs_sub : (a b : ℕ) → nat_abs (sub_ℕ a b) ≡ between a b
abs_sub a b = by (ltb a b) refl
  where
    by : (less : Bool) → ltb a b ≡ less → nat_abs (cond less (negsuc (b - suc a)) (pos (a - b))) ≡ between a b
    by true e = omega (arith, ltb-true a b e)
    by false e = omega (arith, ltb-false a b e)

-- the size of a difference, by naturals
pub abs_diff : (m n : ℤ) → nat_abs (m -ℤ n) ≡ between (above m + below n) (above n + below m)
abs_diff (pos a) (pos zero) = omega arith
abs_diff (pos a) (pos (suc b)) = abs_sub a (suc b) ∙ omega arith
abs_diff (pos a) (negsuc b) = omega arith
abs_diff (negsuc a) (pos zero) = abs_sub 0 (suc a) ∙ omega arith
abs_diff (negsuc a) (pos (suc b)) = omega arith
abs_diff (negsuc a) (negsuc b) = abs_sub (suc b) (suc a) ∙ omega arith

-- 64 times a number
above_times : (x : ℤ) → above (pos 64 *ℤ x) ≡ 64 * above x
above_times (pos n) = refl
above_times (negsuc n) = above_neg (64 * suc n)
  where
    above_neg : (k : ℕ) → above (neg_ℤ (pos k)) ≡ 0
    above_neg zero = refl
    above_neg (suc k) = refl

below_times : (x : ℤ) → below (pos 64 *ℤ x) ≡ 64 * below x
below_times (pos n) = refl
below_times (negsuc n) = below_neg (64 * suc n)
  where
    below_neg : (k : ℕ) → below (neg_ℤ (pos k)) ≡ k
    below_neg zero = refl
    below_neg (suc k) = refl

-- ---- one axis

-- two levels are no farther apart, in sixty-fourths, than by way of what came in
by_way : (x y i : ℤ) → 64 * nat_abs (x -ℤ y) ≤ nat_abs (pos 64 *ℤ x -ℤ i) + nat_abs (pos 64 *ℤ y -ℤ i)
by_way x y i =
    omega (
      arith,
      abs_diff x y,
      abs_diff (pos 64 *ℤ x) i,
      abs_diff (pos 64 *ℤ y) i,
      above_times x,
      above_times y,
      below_times x,
      below_times y,
    )

-- the square of a sum is no more than twice the sum of the squares
sum_squared : (a b : ℕ) → (a + b) * (a + b) ≤ 2 * (a * a) + 2 * (b * b)
sum_squared a b = by (dec_le a b)
  where
    further : (a d : ℕ) → (a + (a + d)) * (a + (a + d)) ≤ 2 * (a * a) + 2 * ((a + d) * (a + d))
    further a d = simp (mul-add, add-mul) (omega (arith, mul_comm a d))

    sorted : (a b : ℕ) → a ≤ b → (a + b) * (a + b) ≤ 2 * (a * a) + 2 * (b * b)
    sorted a b h =
        let e : a + (b - a) ≡ b = omega arith in
        subst (λ (c : ℕ). (a + c) * (a + c) ≤ 2 * (a * a) + 2 * (c * c)) e (further a (b - a))

    by : Dec (a ≤ b) → (a + b) * (a + b) ≤ 2 * (a * a) + 2 * (b * b)
    by (yes h) = sorted a b h
    by (no h) = rw (add_comm a b) (omega (arith, sorted b a (omega arith)))

doubled : (d u v : ℕ) → 64 * d ≤ u + v → 4096 * (d * d) ≤ 2 * (u * u) + 2 * (v * v)
doubled d u v h =
    let scaled : 64 * d * (64 * d) ≡ 64 * (64 * (d * d)) = mul_assoc 64 d (64 * d) ∙ ap (λ (x : ℕ). 64 * x) (mul_left_comm d 64 d) in
    let most : 64 * d * (64 * d) ≤ (u + v) * (u + v) = mul-le-mul h h in
    omega (arith, scaled, most, sum_squared u v)

-- so the squares: 4096 times the squared difference is no more than twice the sum of both squared distances
axis : (x y i : ℤ) → 4096 * square (x -ℤ y) ≤ 2 * square (pos 64 *ℤ x -ℤ i) + 2 * square (pos 64 *ℤ y -ℤ i)
unfolding square
axis x y i = doubled (nat_abs (x -ℤ y)) (nat_abs (pos 64 *ℤ x -ℤ i)) (nat_abs (pos 64 *ℤ y -ℤ i)) (by_way x y i)

-- ---- both axes

-- the points' distance, by way of what came in
pub by_points : (i q : ℤ) (p r : Point) → 4096 * apart p r ≤ 2 * far i q p + 2 * far i q r
unfolding apart far
by_points i q p r = omega (arith, axis (level_i p) (level_i r) i, axis (level_q p) (level_q r) q)

-- a point that is moved by less than half the least distance is nearer than any other
nearer : {ps : List Point} {d : ℕ} → Spaced ps d → (l : ℕ) → l < length ps → (i q : ℤ) → Moved d i q (get_or ps l Nothing) →
    (k : ℕ) → k < length ps → k ≢ l → far_at ps i q l < far_at ps i q k
nearer {ps} {d} spaced l there i q moved k h other =
    let p = get_or ps l Nothing in
    let r = get_or ps k Nothing in
    let wide : d ≤ apart r p = spaced.least k l h there other in
    let both : 4096 * apart r p ≤ 2 * far i q r + 2 * far i q p = by_points i q r p in
    omega arith

-- what is moved by less than half the least distance is decided as its point
pub kept_within : {ps : List Point} {d : ℕ} → Spaced ps d → (l : ℕ) → l < length ps → (i q : ℤ) → Moved d i q (get_or ps l Nothing) →
    nearest_label ps i q ≡ l
kept_within {ps} {d} spaced l there i q moved = nearest_once (record { there = there; least = least; lowest = lowest })
  where
    least : (k : ℕ) → k < length ps → far_at ps i q l ≤ far_at ps i q k
    least k h = by (ℕ_discrete k l)
      where
        by : Dec (k ≡ l) → far_at ps i q l ≤ far_at ps i q k
        by (yes e) = let same : far_at ps i q k ≡ far_at ps i q l = ap (far_at ps i q) e in omega arith
        by (no other) = omega (arith, nearer spaced l there i q moved k h other)

    lowest : (k : ℕ) → k < l → far_at ps i q l < far_at ps i q k
    lowest k h = nearer spaced l there i q moved k (omega arith) (λ e. omega arith)

-- ---- what was not moved at all

no_far : (x : ℤ) → square (x -ℤ x) ≡ 0
unfolding square
no_far x = ap (λ (z : ℤ). nat_abs z * nat_abs z) (+ℤ_invr x)

-- a point that came in as it was sent is decided as itself
pub clean_kept : {ps : List Point} {d : ℕ} → Spaced ps d → 0 < d → (l : ℕ) → l < length ps → (i q : ℤ) →
    i ≡ pos 64 *ℤ level_i (get_or ps l Nothing) → q ≡ pos 64 *ℤ level_q (get_or ps l Nothing) → nearest_label ps i q ≡ l
unfolding far
clean_kept {ps} {d} spaced some l there i q a b =
    let x = pos 64 *ℤ level_i (get_or ps l Nothing) in
    let y = pos 64 *ℤ level_q (get_or ps l Nothing) in
    let none_i : square (x -ℤ i) ≡ 0 = ap (λ (z : ℤ). square (x -ℤ z)) a ∙ no_far x in
    let none_q : square (y -ℤ q) ≡ 0 = ap (λ (z : ℤ). square (y -ℤ z)) b ∙ no_far y in
    let moved : Moved d i q (get_or ps l Nothing) = omega arith in
    kept_within spaced l there i q moved
