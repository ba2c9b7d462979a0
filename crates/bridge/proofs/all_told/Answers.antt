-- `bridge::all_told` meets its contract: number, counts and place, each in its field.
-- Assumes nothing.
use mathlib.Core.Path.{refl}
use Rattle.bridge.proofs.all_told.Goals as goal

pub returns : goal.returns
returns c = rw c.from.ensures refl
