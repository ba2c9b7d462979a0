-- What makes a label the nearest's, by its two stretches; and full squares, where n is even: each axis decides alone.
-- Assumes nothing.
use mathlib.Core.Path.{◌≡◌, refl, sym, ap, subst, ◌∙◌}
use mathlib.Core.Logic.{◌⊎◌, inl, inr}
use mathlib.Core.Bool.{Bool, true, false, cond}
use Prim.Native.Nat.{ℕ, ◌+◌, ◌-◌, ◌*◌, ◌/◌, ◌%◌, ◌^◌, ◌<◌, ◌≤◌}
use native.Mathlib.Nat.{mul-le-mul, mul-le-mul_left, mul-lt-mul_of_pos_right}
use native.Mathlib.Decide.{dec_lt}
use native.Mathlib.Omega.{arith}
use lib.Dec.{eqb}
use lib.IntN.{ℤ, nat_abs}
use lib.ListN.{length}
use Rattle.points.specs.declared.Point.TheVariants.{At}
use Rattle.points.specs.Constellations.{points, point_of}
use Rattle.nearest.specs.Nearest.{far, far_at, Nearest}
use Rattle.nearest.specs.Axes.{raised, width_of, stretch_of, beyond_of, level_in, lines_of, chosen_of, off_of, far_of, in_square}
use Rattle.nearest.proofs.Charts.{label_for, Solid, towards, away, Charted}
use Rattle.nearest.proofs.Raised.{far_levels}
use Rattle.nearest.proofs.Stretches.{stretch_lt, nearest_stretch, OnLine, line_cases, beyond_near, beyond_lt, as_near}

-- ---- sums of two squares

square_less : (a b : ℕ) → a < b → a * a < b * b
square_less a b h =
    let some : 0 < b = omega arith in
    let less : a ≤ b = omega arith in
    let p : a * a ≤ a * b = mul-le-mul_left a less in
    let r : a * b < b * b = mul-lt-mul_of_pos_right h some in
    omega arith

-- they go with what is squared
pub sum_le : (a b c d : ℕ) → a ≤ c → b ≤ d → a * a + b * b ≤ c * c + d * d
sum_le a b c d h k =
    let p : a * a ≤ c * c = mul-le-mul h h in
    let r : b * b ≤ d * d = mul-le-mul k k in
    omega arith

-- and where the sum is no more, nor is what is squared
pub sum_alike : (a b c d : ℕ) → a ≤ c → b ≤ d → c * c + d * d ≤ a * a + b * b → (c ≡ a) × (d ≡ b)
sum_alike a b c d h k e = (first (dec_lt a c), second (dec_lt b d))
  where
    p : a * a ≤ c * c
    p = mul-le-mul h h

    r : b * b ≤ d * d
    r = mul-le-mul k k

    first : Dec (a < c) → c ≡ a
    first (yes l) = absurd (omega (arith, p, r, square_less a c l))
    first (no l) = omega arith

    second : Dec (b < d) → d ≡ b
    second (yes l) = absurd (omega (arith, p, r, square_less b d l))
    second (no l) = omega arith

-- ---- any constellation that is charted

module _ (n : ℕ) (charted : Charted n) (i q : ℤ) (hi : nat_abs i ≤ 32768) (hq : nat_abs q ≤ 32768) where
  -- the squared distance to the point of two stretches
  abbrev far_to : ℕ → ℕ → ℕ
  far_to j k = far_of (width_of n) (raised i) (raised q) j k

  far_standing : (j k l : ℕ) → Solid n j k → point_of n l ≡ At (level_in (width_of n) j) (level_in (width_of n) k) → far_at (points n) i q l ≡ far_to j k
  unfolding point_of
  far_standing j k l s e = ap (far i q) e ∙ far_levels (width_of n) j k i q charted.most s.low_j s.low_k hi hq

  -- two stretches come before all others: in distance, then in label
  abbrev pub Foremost : ℕ → ℕ → Type 0
  Foremost j k = (a b : ℕ) → Solid n a b → (far_to j k ≤ far_to a b) × (far_to a b ≤ far_to j k → label_for n j k ≤ label_for n a b)

  -- their label is the nearest's
  pub nearest_of : (j k : ℕ) → Solid n j k → Foremost j k → Nearest (points n) i q (label_for n j k)
  nearest_of j k s foremost = record { there = charted.label_low s; least = λ l h. least_at l h; lowest = λ l h. lowest_at l h }
    where
      here : far_at (points n) i q (label_for n j k) ≡ far_to j k
      here = far_standing j k (label_for n j k) s (charted.label_there s)

      least_at : (l : ℕ) → l < length (points n) → far_at (points n) i q (label_for n j k) ≤ far_at (points n) i q l
      least_at l h =
          let at = charted.stands l h in
          let f = (foremost at.0 at.1 at.2.solid).0 in
          let e = far_standing at.0 at.1 l at.2.solid at.2.there in
          rw (here, e) f

      lowest_at : (l : ℕ) → l < label_for n j k → far_at (points n) i q (label_for n j k) < far_at (points n) i q l
      lowest_at l h =
          let low : label_for n j k < length (points n) = charted.label_low s in
          let inside : l < length (points n) = omega arith in
          let at = charted.stands l inside in
          let f = (foremost at.0 at.1 at.2.solid).1 in
          let e = far_standing at.0 at.1 l at.2.solid at.2.there in
          let is : label_for n at.0 at.1 ≡ l = charted.label_is at.2 in
          rw (here, e) (by at.0 at.1 f is (dec_lt (far_to j k) (far_to at.0 at.1)))
        where
          by : (a b : ℕ) → (far_to a b ≤ far_to j k → label_for n j k ≤ label_for n a b) → label_for n a b ≡ l
              → Dec (far_to j k < far_to a b) → far_to j k < far_to a b
          by a b f is (yes d) = d
          by a b f is (no d) = let g : label_for n j k ≤ label_for n a b = f (omega arith) in absurd (omega arith)

-- ---- full squares

module _ (n x : ℕ) (charted : Charted n) where
  abbrev own : ℕ
  own = stretch_of (width_of n) x

  abbrev beyond : ℕ
  beyond = beyond_of (width_of n) x own

  abbrev chosen : ℕ
  chosen = chosen_of (lines_of n) (width_of n) x

  chosen_is : (P : ℕ → Type 0) → P own → P beyond → P chosen
  chosen_is P a b = by (eqb (lines_of n / 2 ^ own % 2) 1)
    where
      by : (t : Bool) → P (cond t beyond own)
      by true = b
      by false = a

  chosen-lt : chosen < width_of n
  chosen-lt = chosen_is (λ j. j < width_of n) (stretch_lt (width_of n) x charted.two charted.most) (beyond_lt (width_of n) x charted.two charted.most)

  chosen_off : off_of (width_of n) x chosen ≡ off_of (width_of n) x own
  chosen_off = chosen_is (λ j. off_of (width_of n) x j ≡ off_of (width_of n) x own) refl (beyond_near (width_of n) x charted.two charted.most)

  chosen_nearest : (j : ℕ) → j < width_of n → off_of (width_of n) x chosen ≤ off_of (width_of n) x j
  chosen_nearest j h = rw chosen_off (nearest_stretch (width_of n) x charted.two charted.most j h)

  -- along a line f is lower where the line goes
  chosen_low : (f : ℕ → ℕ) → ((j : ℕ) → 0 < j → j < width_of n → f (towards n j) ≤ f (away n j))
      → (j : ℕ) → j < width_of n → off_of (width_of n) x j ≡ off_of (width_of n) x chosen → f chosen ≤ f j
  chosen_low f lines j h e = by (line_cases (width_of n) x own) (as_near (width_of n) x charted.two charted.most j h (e ∙ chosen_off))
    where
      along : (t : Bool) → f (cond t (own - 1) own) ≤ f (cond t own (own - 1)) → (j ≡ own) ⊎ (j ≡ own - 1) → f (cond t (own - 1) own) ≤ f j
      along true l (inl p) = rw p l
      along true l (inr p) = rw p (omega arith)
      along false l (inl p) = rw p (omega arith)
      along false l (inr p) = rw p l

      by : (beyond ≡ own) ⊎ OnLine (width_of n) x own → (j ≡ own) ⊎ (j ≡ beyond) → f chosen ≤ f j
      by (inl b) c =
          let is : j ≡ own = same c b in
          let chosen_own : chosen ≡ own = chosen_is (λ k. k ≡ own) refl b in
          rw (chosen_own, is) (omega arith)
        where
          same : (j ≡ own) ⊎ (j ≡ beyond) → beyond ≡ own → j ≡ own
          same (inl p) b = p
          same (inr p) b = p ∙ b
      by (inr l) c =
          subst (λ (k : ℕ). f (cond (eqb (lines_of n / 2 ^ own % 2) 1) k own) ≤ f j) (sym l.before)
          (along (eqb (lines_of n / 2 ^ own % 2) 1) (lines own l.some (stretch_lt (width_of n) x charted.two charted.most)) (either c))
        where
          either : (j ≡ own) ⊎ (j ≡ beyond) → (j ≡ own) ⊎ (j ≡ own - 1)
          either (inl p) = inl p
          either (inr p) = inr (p ∙ l.before)

-- in a full square the stretches that the axes choose have the nearest's label
pub square_near : (n : ℕ) → Charted n → n % 2 ≡ 0 → (i q : ℤ) → nat_abs i ≤ 32768 → nat_abs q ≤ 32768
    → Nearest (points n) i q (label_for n (chosen_of (lines_of n) (width_of n) (raised i)) (chosen_of (lines_of n) (width_of n) (raised q)))
square_near n charted even i q hi hq =
    nearest_of n charted i q hi hq (chosen n (raised i) charted) (chosen n (raised q) charted) solid foremost
  where
    solid : Solid n (chosen n (raised i) charted) (chosen n (raised q) charted)
    solid = record { low_j = chosen-lt n (raised i) charted; low_k = chosen-lt n (raised q) charted; no_hole = λ odd. absurd (omega arith) }

    foremost : Foremost n charted i q hi hq (chosen n (raised i) charted) (chosen n (raised q) charted)
    foremost a b s =
        let x = raised i in
        let y = raised q in
        let w = width_of n in
        let near_i = chosen_nearest n x charted a s.low_j in
        let near_q = chosen_nearest n y charted b s.low_k in (
          sum_le (off_of w x (chosen n x charted)) (off_of w y (chosen n y charted)) (off_of w x a) (off_of w y b) near_i near_q,
          λ e.
              let alike = sum_alike (off_of w x (chosen n x charted)) (off_of w y (chosen n y charted)) (off_of w x a) (off_of w y b) near_i near_q e in
              let l1 : label_for n (chosen n x charted) (chosen n y charted) ≤ label_for n a (chosen n y charted) =
              chosen_low n x charted (λ j. label_for n j (chosen n y charted))
              (λ j h k. charted.lines_i even j (chosen n y charted) h k (chosen-lt n y charted)) a s.low_j alike.0 in
              let l2 : label_for n a (chosen n y charted) ≤ label_for n a b =
              chosen_low n y charted (λ k. label_for n a k) (λ k h l. charted.lines_q even a k s.low_j h l) b s.low_k alike.1 in
              omega arith,
        )

-- and it is their point that is answered
pub square_label : (n : ℕ) → Charted n → n % 2 ≡ 0 → (x y : ℕ)
    → in_square n x y ≡ point_of n (label_for n (chosen_of (lines_of n) (width_of n) x) (chosen_of (lines_of n) (width_of n) y))
unfolding in_square
square_label n charted even x y =
    sym (charted.label_there (record { low_j = chosen-lt n x charted; low_k = chosen-lt n y charted; no_hole = λ odd. absurd (omega arith) }))
