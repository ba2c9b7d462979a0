-- DQPSK: the point that the two axes decide on is the nearest of the four, and the first of those as near.
-- Assumes nothing.
use mathlib.Core.Path.{◌≡◌, refl, sym, ◌∙◌}
use mathlib.Core.Bool.{Bool, true, false, ◌&&◌, ◌||◌}
use Prim.Native.Nat.{ℕ, zero, suc, ◌+◌, ◌-◌, ◌*◌, ◌<◌, ◌≤◌}
use native.Mathlib.Omega.{arith}
use lib.Dec.{eqb, leb, ltb}
use lib.IntN.{ℤ, pos, negsuc, sub_ℕ, ◌-ℤ◌, ◌*ℤ◌}
use lib.ListN.{get_or}
use borrow.Author.Tests.{ltb-true, ltb-false, leb-true, leb-false, eqb-true, eqb-false, le-leb, lt-leb}
use Rattle.points.specs.declared.Point.TheVariants.{Nothing}
use Rattle.points.specs.Dqpsk.{phases}
use Rattle.points.specs.Rules.{square}
use Rattle.nearest.specs.Nearest.{far, nearest, Nearest}
use Rattle.nearest.specs.Axes.{phase_near}
use Rattle.nearest.proofs.Gaps.{gap_above}
use Rattle.nearest.proofs.Distances.{nearest_point}

-- ---- the squared distances along one axis

-- from a level of +1, of 0 and of -1
abbrev above : ℤ → ℕ
above x = square (pos 64 *ℤ pos 1 -ℤ x)

abbrev amid : ℤ → ℕ
amid x = square (pos 64 *ℤ pos 0 -ℤ x)

abbrev below : ℤ → ℕ
below x = square (pos 64 *ℤ negsuc 0 -ℤ x)

-- the square of a difference
square_sub : (a b : ℕ) → square (sub_ℕ a b) + 2 * (a * b) ≡ a * a + b * b
unfolding square
square_sub a b = by (ltb a b) refl
  where
    by : (t : Bool) → ltb a b ≡ t → square (sub_ℕ a b) + 2 * (a * b) ≡ a * a + b * b
    by true e =
        let h : a < b = ltb-true a b e in
        let k : b ≡ a + suc (b - suc a) = omega arith in
        rw e (gap_above a b (suc (b - suc a)) k)
    by false e =
        let h : b ≤ a = ltb-false a b e in
        let k : a ≡ b + (a - b) = omega arith in
        let d : (a - b) * (a - b) + 2 * (b * a) ≡ b * b + a * a = gap_above b a (a - b) k in
        rw e (omega arith)

-- to what is not negative, and to what is
sides_pos : (a : ℕ) →
    (above (pos a) + 128 * a ≡ a * a + 4096) × (amid (pos a) ≡ a * a) × (below (pos a) ≡ a * a + 128 * a + 4096)
unfolding square
sides_pos zero = (refl, refl, refl)
sides_pos (suc a) = omega (arith, square_sub 64 (suc a), square_sub 0 (suc a))

sides_neg : (a : ℕ) →
    (above (negsuc a) ≡ suc a * suc a + 128 * suc a + 4096) × (amid (negsuc a) ≡ suc a * suc a) ×
    (below (negsuc a) + 128 * suc a ≡ suc a * suc a + 4096)
unfolding square
sides_neg a = omega (arith, square_sub (suc a) 64)

-- ---- the four labels: what is nearer than each before it, and as near as each after it, is the nearest

-- +1
label_0 : (i q : ℤ) →
    (above i + amid q ≤ amid i + above q) × (above i + amid q ≤ below i + amid q) × (above i + amid q ≤ amid i + below q) → Nearest phases i q 0
unfolding phases far
label_0 i q h = record { there = omega arith; least = least; lowest = λ k b. absurd (omega arith) }
  where
    least : (k : ℕ) → k < 4 → above i + amid q ≤ far i q (get_or phases k Nothing)
    least zero b = omega arith
    least (suc zero) b = omega arith
    least (suc (suc zero)) b = omega arith
    least (suc (suc (suc zero))) b = omega arith
    least (suc (suc (suc (suc k)))) b = absurd (omega arith)

-- +j
label_1 : (i q : ℤ) →
    (amid i + above q < above i + amid q) × (amid i + above q ≤ below i + amid q) × (amid i + above q ≤ amid i + below q) → Nearest phases i q 1
unfolding phases far
label_1 i q h = record { there = omega arith; least = least; lowest = lowest }
  where
    least : (k : ℕ) → k < 4 → amid i + above q ≤ far i q (get_or phases k Nothing)
    least zero b = omega arith
    least (suc zero) b = omega arith
    least (suc (suc zero)) b = omega arith
    least (suc (suc (suc zero))) b = omega arith
    least (suc (suc (suc (suc k)))) b = absurd (omega arith)

    lowest : (k : ℕ) → k < 1 → amid i + above q < far i q (get_or phases k Nothing)
    lowest zero b = omega arith
    lowest (suc k) b = absurd (omega arith)

-- -1
label_2 : (i q : ℤ) →
    (below i + amid q < above i + amid q) × (below i + amid q < amid i + above q) × (below i + amid q ≤ amid i + below q) → Nearest phases i q 2
unfolding phases far
label_2 i q h = record { there = omega arith; least = least; lowest = lowest }
  where
    least : (k : ℕ) → k < 4 → below i + amid q ≤ far i q (get_or phases k Nothing)
    least zero b = omega arith
    least (suc zero) b = omega arith
    least (suc (suc zero)) b = omega arith
    least (suc (suc (suc zero))) b = omega arith
    least (suc (suc (suc (suc k)))) b = absurd (omega arith)

    lowest : (k : ℕ) → k < 2 → below i + amid q < far i q (get_or phases k Nothing)
    lowest zero b = omega arith
    lowest (suc zero) b = omega arith
    lowest (suc (suc k)) b = absurd (omega arith)

-- -j
label_3 : (i q : ℤ) →
    (amid i + below q < above i + amid q) × (amid i + below q < amid i + above q) × (amid i + below q < below i + amid q) → Nearest phases i q 3
unfolding phases far
label_3 i q h = record { there = omega arith; least = least; lowest = lowest }
  where
    least : (k : ℕ) → k < 4 → amid i + below q ≤ far i q (get_or phases k Nothing)
    least zero b = omega arith
    least (suc zero) b = omega arith
    least (suc (suc zero)) b = omega arith
    least (suc (suc (suc zero))) b = omega arith
    least (suc (suc (suc (suc k)))) b = absurd (omega arith)

    lowest : (k : ℕ) → k < 3 → amid i + below q < far i q (get_or phases k Nothing)
    lowest zero b = omega arith
    lowest (suc zero) b = omega arith
    lowest (suc (suc zero)) b = omega arith
    lowest (suc (suc (suc k))) b = absurd (omega arith)

-- ---- the test

-- where the diagonal goes to the real axis, and where it goes to the other
to_real : (s t : Bool) → (s || (t && false)) ≡ s
to_real true t = refl
to_real false true = refl
to_real false false = refl

to_other : (a b : ℕ) → (ltb a b || (eqb a b && true)) ≡ leb a b
to_other a b = by (ltb a b) refl (eqb a b) refl
  where
    by : (s : Bool) → ltb a b ≡ s → (t : Bool) → eqb a b ≡ t → (ltb a b || (eqb a b && true)) ≡ leb a b
    by true l t m =
        let h : a < b = ltb-true a b l in
        rw l (sym (le-leb a b (omega arith)))
    by false l true m =
        let h : a ≡ b = eqb-true a b m in
        rw (l, m) (sym (le-leb a b (omega arith)))
    by false l false m =
        let h : b ≤ a = ltb-false a b l in
        let g : ¬ (a ≡ b) = eqb-false a b m in
        rw (l, m) (sym (lt-leb a b (omega arith)))

-- ---- the nearest

abbrev Decided : ℤ → ℤ → Type 0
Decided i q = (l : ℕ) × Nearest phases i q l × (phase_near i q ≡ get_or phases l Nothing)

-- What the two axes decide on has a label, and that label is the nearest: it is at the least squared distance, and of +1, +j, -1 and -j the first there.
pub phase_label : (i q : ℤ) → (l : ℕ) × Nearest phases i q l × (phase_near i q ≡ get_or phases l Nothing)
unfolding phase_near phases
phase_label (pos a) (pos b) = by (ltb a b) refl
  where
    by : (t : Bool) → ltb a b ≡ t → Decided (pos a) (pos b)
    by true e =
        let h : a < b = ltb-true a b e in
        (1, label_1 (pos a) (pos b) (omega (arith, h, sides_pos a, sides_pos b)), rw (to_real (ltb a b) (eqb a b), e))
    by false e =
        let h : b ≤ a = ltb-false a b e in
        (0, label_0 (pos a) (pos b) (omega (arith, h, sides_pos a, sides_pos b)), rw (to_real (ltb a b) (eqb a b), e))
phase_label (pos a) (negsuc b) = by (ltb a (suc b)) refl
  where
    by : (t : Bool) → ltb a (suc b) ≡ t → Decided (pos a) (negsuc b)
    by true e =
        let h : a < suc b = ltb-true a (suc b) e in
        (3, label_3 (pos a) (negsuc b) (omega (arith, h, sides_pos a, sides_neg b)), rw (to_real (ltb a (suc b)) (eqb a (suc b)), e))
    by false e =
        let h : suc b ≤ a = ltb-false a (suc b) e in
        (0, label_0 (pos a) (negsuc b) (omega (arith, h, sides_pos a, sides_neg b)), rw (to_real (ltb a (suc b)) (eqb a (suc b)), e))
phase_label (negsuc a) (pos b) = by (leb (suc a) b) refl
  where
    by : (t : Bool) → leb (suc a) b ≡ t → Decided (negsuc a) (pos b)
    by true e =
        let h : suc a ≤ b = leb-true (suc a) b e in
        (1, label_1 (negsuc a) (pos b) (omega (arith, h, sides_neg a, sides_pos b)), rw (to_other (suc a) b, e))
    by false e =
        let h : b < suc a = leb-false (suc a) b e in
        (2, label_2 (negsuc a) (pos b) (omega (arith, h, sides_neg a, sides_pos b)), rw (to_other (suc a) b, e))
phase_label (negsuc a) (negsuc b) = by (ltb (suc a) (suc b)) refl
  where
    by : (t : Bool) → ltb (suc a) (suc b) ≡ t → Decided (negsuc a) (negsuc b)
    by true e =
        let h : suc a < suc b = ltb-true (suc a) (suc b) e in
        (3, label_3 (negsuc a) (negsuc b) (omega (arith, h, sides_neg a, sides_neg b)), rw (to_real (ltb (suc a) (suc b)) (eqb (suc a) (suc b)), e))
    by false e =
        let h : suc b ≤ suc a = ltb-false (suc a) (suc b) e in
        (2, label_2 (negsuc a) (negsuc b) (omega (arith, h, sides_neg a, sides_neg b)), rw (to_real (ltb (suc a) (suc b)) (eqb (suc a) (suc b)), e))

-- That point is the nearest of the four.
pub phase_nearest : (i q : ℤ) → phase_near i q ≡ nearest phases i q
phase_nearest i q = by (phase_label i q)
  where
    by : Decided i q → phase_near i q ≡ nearest phases i q
    by (l, n, e) = e ∙ sym (nearest_point n)
