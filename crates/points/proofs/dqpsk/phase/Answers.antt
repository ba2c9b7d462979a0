-- `points::dqpsk::phase` meets its contract: what is read tells the four points apart.
-- Assumes nothing.
use mathlib.Core.Path.{◌∙◌}
use mir.Syntax.{w16}
use mir.ValLaws.{to_z-of_z}
use Rattle.points.proofs.Turns.{phase_again}
use Rattle.points.proofs.dqpsk.phase.Goals as goal

pub returns : goal.returns
returns c =
    let i = to_z-of_z w16 c.args.i c.ranges.i in
    let q = to_z-of_z w16 c.args.q c.ranges.q in
    let read = rw (i, q) at c.read-guess.ensures in
    rw (c.point.ensures, read, i, q) at c.confirmed.ensures ∙ phase_again c.args.i c.args.q
