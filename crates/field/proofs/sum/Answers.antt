-- `field::sum` meets its contract, by the definition.
-- Assumes nothing.
use mathlib.Core.Path.{refl}
use Rattle.field.specs.Field.{sum}
use Rattle.field.proofs.sum.Goals as goal

pub returns : goal.returns
unfolding sum
returns c = refl
