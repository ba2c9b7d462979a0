-- `points::constellation::label_read` meets its contract, by what its callee ensures.
-- Assumes nothing.
use mir.Syntax.{w16}
use mir.ValLaws.{to_z-of_z}
use Rattle.points.proofs.constellation.label_read.Goals as goal

pub returns : goal.returns
returns c = rw (to_z-of_z w16 c.args.i c.ranges.i, to_z-of_z w16 c.args.q c.ranges.q) at c.read_in.ensures
