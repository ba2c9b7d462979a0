-- `points::constellation::label_in` meets its contract: a label that is read stands, if its point is the one that came in.
-- Assumes nothing.
use mathlib.Core.Path.{◌∙◌}
use mir.Syntax.{w16}
use mir.ValLaws.{to_z-of_z}
use Rattle.points.proofs.Lending.{label_by_read}
use Rattle.points.proofs.constellation.label_in.Goals as goal

pub returns : goal.returns
returns c =
    let i = to_z-of_z w16 c.args.i c.ranges.i in
    let q = to_z-of_z w16 c.args.q c.ranges.q in
    let read = rw (i, q) at c.read_in-guess.ensures in
    rw (c.point_in.ensures, read, i, q) at c.confirmed.ensures ∙ label_by_read c.args.cells.now c.args.quadrants.now c.args.bits c.args.i c.args.q
