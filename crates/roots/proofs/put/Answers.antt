-- `roots::put` meets its contract.
-- Assumes nothing.
use mathlib.Core.Path.{refl}
use Rattle.roots.specs.Searches.{row_put}
use Rattle.roots.proofs.put.Goals as goal

pub returns : goal.returns
unfolding row_put
returns c = refl
