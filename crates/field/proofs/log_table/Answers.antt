-- `field::log_table` meets its contract: each entry is the logarithm, by computation.
-- Assumes nothing.
use Rattle.field.proofs.Constants.{logarithms_are}
use Rattle.field.proofs.log_table.Goals as goal

pub returns : goal.returns
returns c = logarithms_are
