-- `roots::planes_at` meets its contract.
-- Assumes nothing.
use mathlib.Core.Path.{refl}
use Rattle.roots.specs.Searches.{planes_at}
use Rattle.roots.proofs.planes_at.Goals as goal

pub returns : goal.returns
unfolding planes_at
returns c = refl
