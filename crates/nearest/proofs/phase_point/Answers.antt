-- `nearest::phase_point` meets its contract: the test and the unit make what the two axes decide on, and that is the nearest.
-- Assumes nothing.
use mathlib.Core.Path.{◌≡◌, refl, sym, ◌∙◌}
use lib.IntN.{ℤ, pos, negsuc}
use mir.Syntax.{w16}
use mir.Val.{to_z, of_z}
use mir.ValLaws.{to_z-of_z}
use Rattle.nearest.specs.Axes.{unit_of, phase_near}
use Rattle.nearest.proofs.Phases.{phase_nearest}
use Rattle.nearest.proofs.phase_point.Goals as goal

-- as the machine holds it
unit_held : (x : ℤ) → to_z w16 (of_z w16 (unit_of x)) ≡ unit_of x
unit_held (pos n) = refl
unit_held (negsuc n) = refl

pub returns-then-is_upright : goal.returns-then-is_upright
unfolding phase_near
returns-then-is_upright c =
    let i = to_z-of_z w16 c.args.i c.ranges.i in
    let q = to_z-of_z w16 c.args.q c.ranges.q in
    let upright = sym (rw (i, q) at c.is_upright.ensures) ∙ c.if-is_upright.true in
    rw (rw q at c.unit.ensures, unit_held c.args.q) (rw upright at (phase_nearest c.args.i c.args.q))

pub returns : goal.returns
unfolding phase_near
returns c =
    let i = to_z-of_z w16 c.args.i c.ranges.i in
    let q = to_z-of_z w16 c.args.q c.ranges.q in
    let level = sym (rw (i, q) at c.is_upright.ensures) ∙ c.if-is_upright.false in
    rw (rw i at c.unit-2.ensures, unit_held c.args.i) (rw level at (phase_nearest c.args.i c.args.q))
