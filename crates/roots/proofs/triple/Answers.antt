-- `roots::triple` meets its contract.
-- Assumes nothing.
use Rattle.field.proofs.Values.{series}
use Rattle.planes.specs.Lanes.{Quadratic}
use Rattle.roots.specs.Searches.{Triple}
use Rattle.roots.proofs.triple.Goals as goal

pub returns : goal.returns
unfolding Triple Quadratic series
returns c = c.quadratic.ensures
