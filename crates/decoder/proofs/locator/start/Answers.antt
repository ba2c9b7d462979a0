-- `decoder::locator::start` meets its contract: the locator is 1, and the other polynomial x.
-- Assumes nothing.
use Rattle.decoder.proofs.Recurrences.{after_start}
use Rattle.decoder.proofs.locator.start.Goals as goal

pub returns : goal.returns
returns c = after_start
