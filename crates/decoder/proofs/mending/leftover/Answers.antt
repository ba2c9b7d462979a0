-- `decoder::mending::leftover` meets its contract: what the table gives is what is left.
-- Assumes nothing.
use mathlib.Core.Path.{◌∙◌}
use Rattle.decoder.proofs.PackedWords.{left_by}
use Rattle.decoder.proofs.mending.leftover.Goals as goal

pub returns : goal.returns
returns c = c.leftover.ensures ∙ left_by c.requires.0 c.args.words.now c.requires.1
