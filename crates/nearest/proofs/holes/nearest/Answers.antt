-- `nearest::holes::nearest` meets its contract, by what its callees ensure: there are three stretches, or a multiple, so that a hole has others beside it.
-- Assumes nothing.
use mathlib.Core.Path.{◌≡◌, refl, ap, ap₂, sym, ◌∙◌}
use mathlib.Core.Bool.{Bool, true, false, cond, ◌&&◌}
use mathlib.Core.List.{List}
use Prim.Native.Nat.{ℕ, ◌%◌, ◌≤◌}
use native.Mathlib.Omega.{arith}
use lib.Dec.{eqb}
use borrow.Author.Tests.{eq-eqb, ne_eqb, eqb-true}
use Rattle.points.specs.declared.Point.{Point}
use Rattle.points.specs.declared.Point.TheVariants.{At}
use Rattle.nearest.specs.Axes.{width_of, stretch_of, beyond_of, level_in, is_hole, round_line, beside_hole, on_none, in_holed}
use Rattle.nearest.proofs.Signed.{held, odd_cases}
use Rattle.nearest.proofs.holes.nearest.Goals as goal
use Rattle.nearest.proofs.holes.nearest.Goals.{After-beyond-k2, then-j-j2-via-then-j-j2, then-j-j2-via-else-j-j2+then-k-k2}

-- how many stretches there are is divisible by 3
in_threes : (n : ℕ) → n % 2 ≡ 1 → 2 ≤ n → n ≤ 10 → width_of n % 3 ≡ 0
unfolding width_of
in_threes n e h m = odd_cases n e h m (λ p. rw p) (λ p. rw p) (λ p. rw p) (λ p. rw p)

-- where both of two tests hold, each does
first_of : (s t : Bool) → (s && t) ≡ true → s ≡ true
first_of true t h = refl
first_of false t h = h

second_of : (s t : Bool) → (s && t) ≡ true → t ≡ true
second_of true t h = h
second_of false t h = cc

-- a hole is in the middle of three stretches on both axes
in_middle : (j k : ℕ) → is_hole j k ≡ true → (j % 3 ≡ 1) × (k % 3 ≡ 1)
in_middle j k h = (eqb-true (j % 3) 1 (first_of _ (eqb (k % 3) 1) h), eqb-true (k % 3) 1 (second_of (eqb (j % 3) 1) _ h))

-- ---- the contract's answer by what the callees gave: how many stretches there are, and those of x and y, and those beyond the lines

unfoldable decided : List ℕ → ℕ → ℕ → ℕ → ℕ → ℕ → ℕ → ℕ → ℕ → Point
decided quadrants n x y w j k j2 k2 =
    cond (on_none j k j2 k2)
    (cond (is_hole j k) (beside_hole quadrants n w x y j k) (At (level_in w j) (level_in w k)))
    (round_line quadrants n w x y j k j2 k2)

unfolded : (quadrants : List ℕ) (n x y : ℕ) →
    let w = width_of n in
    let j = stretch_of w x in
    let k = stretch_of w y in
    decided quadrants n x y w j k (beyond_of w x j) (beyond_of w y k) ≡ in_holed quadrants n x y
unfolding in_holed decided
unfolded quadrants n x y = refl

decided_is : (quadrants : List ℕ) (n x y w j k j2 k2 : ℕ) → w ≡ width_of n → j ≡ stretch_of w x → k ≡ stretch_of w y → j2 ≡ beyond_of w x j → k2 ≡ beyond_of w y k
    → decided quadrants n x y w j k j2 k2 ≡ in_holed quadrants n x y
decided_is quadrants n x y w j k j2 k2 of_w of_j of_k of_j2 of_k2 = rw (of_j2, of_k2, of_j, of_k, of_w) (unfolded quadrants n x y)

pub beside_hole-requires : goal.beside_hole-requires
beside_hole-requires c =
    let axis = c.args.axis in
    let j = c.stretch-j.result in
    let k = c.stretch-k.result in
    let threes : axis.width % 3 ≡ 0 = ap (λ (m : ℕ). m % 3) axis.wide ∙ in_threes axis.bits c.requires axis.known.0 axis.known.1 in
    let middle = in_middle j k (sym c.is_hole.ensures ∙ c.if-is_hole.true) in
    let one : j % 3 ≡ 1 = middle.0 in
    let two : k % 3 ≡ 1 = middle.1 in
    (omega arith, omega arith, omega arith, omega arith)

is_decided : (d : After-beyond-k2) →
    decided d.args.quadrants.now d.args.axis.bits d.args.x d.args.y d.args.axis.width
    d.stretch-j.result d.stretch-k.result d.beyond-j2.result d.beyond-k2.result
    ≡ in_holed d.args.quadrants.now d.args.axis.bits d.args.x d.args.y
is_decided d =
    decided_is _ _ _ _ _ _ _ _ _ d.args.axis.wide d.stretch-j.ensures.0 d.stretch-k.ensures.0
    d.beyond-j2.ensures.0 d.beyond-k2.ensures.0

in_hole : (quadrants : List ℕ) (n x y w j k j2 k2 : ℕ) → j ≡ j2 → k ≡ k2 → is_hole j k ≡ true
    → beside_hole quadrants n w x y j k ≡ decided quadrants n x y w j k j2 k2
unfolding decided
in_hole quadrants n x y w j k j2 k2 d e h = rw (eq-eqb j j2 d, eq-eqb k k2 e, h)

in_one : (quadrants : List ℕ) (n x y w j k j2 k2 : ℕ) → j ≡ j2 → k ≡ k2 → is_hole j k ≡ false
    → At (level_in w j) (level_in w k) ≡ decided quadrants n x y w j k j2 k2
unfolding decided
in_one quadrants n x y w j k j2 k2 d e h = rw (eq-eqb j j2 d, eq-eqb k k2 e, h)

on_line : (quadrants : List ℕ) (n x y w j k j2 k2 : ℕ) → on_none j k j2 k2 ≡ false
    → round_line quadrants n w x y j k j2 k2 ≡ decided quadrants n x y w j k j2 k2
unfolding decided
on_line quadrants n x y w j k j2 k2 h = rw h

pub returns-then-is_hole : goal.returns-then-is_hole
returns-then-is_hole c =
    c.beside_hole.ensures
    ∙ in_hole _ _ _ _ _ _ _ _ _ c.if-j-j2.false c.if-k-k2.false (sym c.is_hole.ensures ∙ c.if-is_hole.true)
    ∙ is_decided (goal.at.returns-then-is_hole c).After-beyond-k2

pub returns : goal.returns
returns c =
    let i = held c.level.result c.level.type_inv ∙ c.level.ensures in
    let q = held c.level-2.result c.level-2.type_inv ∙ c.level-2.ensures in
    ap₂ At i q
    ∙ in_one _ _ _ _ _ _ _ _ _ c.if-j-j2.false c.if-k-k2.false (sym c.is_hole.ensures ∙ c.if-is_hole.false)
    ∙ is_decided (goal.at.returns c).After-beyond-k2

-- one of the two tests failed
pub returns-then-j-j2 : goal.returns-then-j-j2
returns-then-j-j2 c =
    let one : on_none c.stretch-j.result c.stretch-k.result c.beyond-j2.result c.beyond-k2.result ≡ false =
    elim c.then-j-j2.branch [ then-j-j2-via-then-j-j2 w ↦ rw (ne_eqb _ _ w.if-j-j2.true) | then-j-j2-via-else-j-j2+then-k-k2 w ↦ rw (eq-eqb _ _ w.if-j-j2.false, ne_eqb _ _ w.if-k-k2.true) ] in
    c.round_line.ensures ∙ on_line _ _ _ _ _ _ _ _ _ one ∙ is_decided (goal.at.returns-then-j-j2 c).After-beyond-k2
