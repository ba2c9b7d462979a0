-- `nearest::point` meets its contract: with our table, the lent form answers the nearest point.
-- Assumes nothing.
use mathlib.Core.Path.{◌∙◌}
use lib.Signed.{nat_abs-le}
use mir.Syntax.{w16}
use mir.ValLaws.{to_z-of_z}
use Rattle.nearest.proofs.Nears.{near_ours}
use Rattle.nearest.proofs.point.Goals as goal

pub returns : goal.returns
returns c =
    let i = to_z-of_z w16 c.args.i c.ranges.i in
    let q = to_z-of_z w16 c.args.q c.ranges.q in
    let near = near_ours c.args.bits c.args.i c.args.q (nat_abs-le c.args.i c.ranges.i.sfits) (nat_abs-le c.args.q c.ranges.q.sfits) in
    rw (c.quadrant_table.ensures, i, q) at c.point_in.ensures ∙ near
