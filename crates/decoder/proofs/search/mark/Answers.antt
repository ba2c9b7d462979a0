-- `decoder::search::mark` meets its contract.
-- Assumes nothing.
use Rattle.decoder.proofs.OneBit.{bits_marked}
use Rattle.decoder.proofs.search.mark.Goals as goal

pub returns : goal.returns
returns c = λ long. bits_marked _ _ long c.requires
