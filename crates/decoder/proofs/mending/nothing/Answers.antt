-- `decoder::mending::nothing` meets its contract: eight machine words that are 0 have no bit but 0.
-- Assumes nothing.
use mathlib.Core.Path.{refl}
use Rattle.bits.specs.Words.{digits}
use Rattle.packed.specs.Packed.{bits_from, bits512}
use Rattle.decoder.proofs.mending.nothing.Goals as goal

pub returns : goal.returns
unfolding bits512 bits_from digits
returns c = (c.no_word.ensures, refl)
