-- `bridge::answer_of` meets its contract: number, count and place, each in its field.
-- Assumes nothing.
use mathlib.Core.Path.{refl}
use Rattle.bridge.proofs.answer_of.Goals as goal

pub returns : goal.returns
returns c = rw c.from.ensures refl
