-- `planes::spread` meets its contract: plane b has the digit b of x in each lane.
-- Assumes nothing.
use mathlib.Core.Path.{ap, ◌∙◌}
use Rattle.field.proofs.Elements.{element_of}
use Rattle.planes.specs.Lanes.{Throughout}
use Rattle.planes.proofs.Masks.{number_spread, lane_spread}
use Rattle.planes.proofs.spread.Goals as goal

pub returns : goal.returns
unfolding Throughout
returns c l h =
    lane_spread _ l _
    (number_spread _ l _
    (c.all.ensures l h)
    (c.all-2.ensures l h)
    (c.all-3.ensures l h)
    (c.all-4.ensures l h)
    (c.all-5.ensures l h)
    (c.all-6.ensures l h)
    (c.all-7.ensures l h)
    (c.all-8.ensures l h)
    (c.all-9.ensures l h))
    ∙ ap element_of c.from-x0.ensures
