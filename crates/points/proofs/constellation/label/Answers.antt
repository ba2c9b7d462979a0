-- `points::constellation::label` meets its contract: with our tables, the lent form reads Annex B.
-- Assumes nothing.
use mathlib.Core.Path.{◌∙◌}
use mir.Syntax.{w16}
use mir.ValLaws.{to_z-of_z}
use Rattle.points.proofs.Lending.{label_ours}
use Rattle.points.proofs.constellation.label.Goals as goal

pub returns : goal.returns
returns c =
    let i = to_z-of_z w16 c.args.i c.ranges.i in
    let q = to_z-of_z w16 c.args.q c.ranges.q in
    let answer = rw (c.cell_table.ensures, c.quadrant_table.ensures, i, q) at c.label_in.ensures in
    answer ∙ label_ours c.args.bits c.args.i c.args.q
