-- The tables of DQPSK: the nearest of its four points is that of any table.
-- Assumes nothing.
use mathlib.Core.Path.{sym, ap, ◌∙◌}
use mathlib.Core.List.{List, []}
use lib.ListN.{get_or-replicate}
use mir.Syntax.{w16}
use mir.ValLaws.{to_z-of_z}
use Rattle.points.specs.declared.Point.{Point}
use Rattle.points.specs.Dqpsk.{phases}
use Rattle.nearest.specs.Nearest.{nearest}
use Rattle.decider.proofs.tables.DqpskTables.nearest.Goals as goal

pub returns : goal.returns
returns c =
    let i = to_z-of_z w16 c.args.i c.ranges.i in
    let q = to_z-of_z w16 c.args.q c.ranges.q in
    rw (i, q) at c.phase_point.ensures ∙ ap (λ (table : List Point). nearest table c.args.i c.args.q) (sym (get_or-replicate 210 c.args._s phases [] c.requires))
