-- The two laws of the nearest point, once over any table, and that they leave one label.
-- Assumes nothing.
use mathlib.Core.Path.{◌≡◌, refl, ap}
use mathlib.Core.Bool.{Bool}
use mathlib.Core.List.{List, [], ◌∷◌}
use Prim.Native.Nat.{ℕ, zero, suc, ◌<◌, ◌≤◌}
use native.Mathlib.Decide.{dec_le}
use native.Mathlib.Omega.{arith}
use lib.Dec.{eqb}
use lib.IntN.{ℤ}
use lib.ListN.{length, get_or}
use borrow.Author.Tests.{eqb-true, eqb-false}
use Rattle.ground.specs.First.{first_in}
use Rattle.ground.proofs.Firsts.{First, first}
use Rattle.points.specs.declared.Point.{Point}
use Rattle.points.specs.declared.Point.TheVariants.{Nothing}
use Rattle.nearest.specs.Nearest.{far, least_far, nearest_label, nearest, far_at, Nearest}

-- ---- the least distance

-- no point of the table is nearer
pub least_le : (ps : List Point) (i q : ℤ) (k : ℕ) → k < length ps → least_far ps i q ≤ far_at ps i q k
unfolding least_far
least_le [] i q k h = absurd (omega arith)
least_le (p ∷ []) i q zero h = omega arith
least_le (p ∷ []) i q (suc k) h = absurd (omega arith)
least_le (p ∷ (r ∷ ps)) i q zero h = omega arith
least_le (p ∷ (r ∷ ps)) i q (suc k) h = omega (arith, least_le (r ∷ ps) i q k (omega arith))

-- and one is so near
pub record Reached (ps : List Point) (i q : ℤ) : Type 0 where
  pub label : ℕ
  pub there : label < length ps
  pub reached : far_at ps i q label ≡ least_far ps i q

pub least_is : (ps : List Point) (i q : ℤ) → 0 < length ps → Reached ps i q
unfolding least_far
least_is [] i q h = absurd (omega arith)
least_is (p ∷ []) i q h = record { label = 0; there = omega arith; reached = refl }
least_is (p ∷ (r ∷ ps)) i q h = by (least_is (r ∷ ps) i q (omega arith)) (dec_le (far i q p) (least_far (r ∷ ps) i q))
  where
    by : Reached (r ∷ ps) i q → Dec (far i q p ≤ least_far (r ∷ ps) i q) → Reached (p ∷ (r ∷ ps)) i q
    by rest (yes k) = record { label = 0; there = omega arith; reached = omega arith }
    by rest (no k) = record { label = suc rest.label; there = omega (arith, rest.there); reached = omega (arith, rest.reached) }

-- ---- the two laws

-- a test of the distances finds the first label at the least one
module _ (ps : List Point) (i q : ℤ) (some : 0 < length ps) where
  test : Point → Bool
  test p = eqb (far i q p) (least_far ps i q)

  found : First test Nothing ps (nearest_label ps i q)
  unfolding nearest_label test
  found = first test Nothing ps

  is_there : nearest_label ps i q < length ps
  unfolding test
  is_there = by (dec_le (length ps) (nearest_label ps i q))
    where
      at : Reached ps i q
      at = least_is ps i q some

      by : Dec (length ps ≤ nearest_label ps i q) → nearest_label ps i q < length ps
      by (yes h) = absurd (eqb-false (far_at ps i q at.label) (least_far ps i q) (found.before at.label (omega (arith, at.there))) at.reached)
      by (no h) = omega arith

  is_least : far_at ps i q (nearest_label ps i q) ≡ least_far ps i q
  unfolding test
  is_least = eqb-true (far_at ps i q (nearest_label ps i q)) (least_far ps i q) (found.there is_there)

  is_lowest : (k : ℕ) → k < nearest_label ps i q → far_at ps i q (nearest_label ps i q) < far_at ps i q k
  unfolding test
  is_lowest k h =
      let other : far_at ps i q k ≡ least_far ps i q → ⊥ = eqb-false (far_at ps i q k) (least_far ps i q) (found.before k h) in
      let there : k < length ps = omega (arith, is_there) in
      omega (arith, is_least, least_le ps i q k there, other)

-- the label of `nearest` is that of a point at the least distance, and of such the lowest
pub nearest_is : (ps : List Point) (i q : ℤ) → 0 < length ps → Nearest ps i q (nearest_label ps i q)
nearest_is ps i q some = record {
  there = is_there ps i q some;
  least = λ k h. omega (arith, is_least ps i q some, least_le ps i q k h);
  lowest = is_lowest ps i q some;
}

-- ---- and they leave one label

-- two labels that meet both laws are one
pub nearest_same : {ps : List Point} {i q : ℤ} {k l : ℕ} → Nearest ps i q k → Nearest ps i q l → k ≡ l
nearest_same {ps} {i} {q} {k} {l} a b =
    let below : k < l → ⊥ = λ h. let s : far_at ps i q l < far_at ps i q k = b.lowest k h in omega (arith, s, a.least l b.there) in
    let above : l < k → ⊥ = λ h. let s : far_at ps i q k < far_at ps i q l = a.lowest l h in omega (arith, s, b.least k a.there) in
    omega (arith, below, above)

-- a label that meets both is that of `nearest`
pub nearest_once : {ps : List Point} {i q : ℤ} {l : ℕ} → Nearest ps i q l → nearest_label ps i q ≡ l
nearest_once {ps} {i} {q} n = nearest_same (nearest_is ps i q (omega (arith, n.there))) n

-- and `nearest` is its point
pub nearest_point : {ps : List Point} {i q : ℤ} {l : ℕ} → Nearest ps i q l → nearest ps i q ≡ get_or ps l Nothing
unfolding nearest
nearest_point {ps} n = ap (λ (k : ℕ). get_or ps k Nothing) (nearest_once n)

-- in a table of no points there is none
pub nearest_none : (i q : ℤ) → nearest [] i q ≡ Nothing
unfolding nearest nearest_label first_in
nearest_none i q = refl
