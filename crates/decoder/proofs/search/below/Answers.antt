-- `decoder::search::below` meets its contract.
-- Assumes nothing.
use Rattle.decoder.proofs.LowestDigits.{below_law}
use Rattle.decoder.proofs.search.below.Goals as goal

pub returns : goal.returns
returns c = below_law _ c.requires c.ranges.x.fits
