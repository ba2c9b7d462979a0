-- `field::power_table` meets its contract: the entries of ours up to the first 0 are those of the table.
-- Assumes nothing.
use mathlib.Core.Path.{◌∙◌}
use Rattle.field.proofs.Constants.{powers_front}
use Rattle.field.proofs.power_table.Goals as goal

pub returns : goal.returns
returns c = c.copy_from_slice.ensures.after ∙ powers_front
