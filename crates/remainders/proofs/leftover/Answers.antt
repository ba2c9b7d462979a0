-- `remainders::leftover` meets its contract: the two parts, added.
-- Assumes nothing.
use mathlib.Core.Path.{ap₂, ◌∙◌}
use lib.Bits.{bit_xor}
use Rattle.remainders.specs.Taking.{leftover_by}
use Rattle.remainders.proofs.leftover.Goals as goal

pub returns : goal.returns
unfolding leftover_by
returns c = c.xor.ensures ∙ ap₂ bit_xor c.taken.ensures c.behind.ensures
