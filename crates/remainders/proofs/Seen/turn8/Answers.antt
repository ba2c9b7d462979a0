-- `remainders::Seen::turn8` meets its contract: what is left of the register moves up, and what the table has for its highest digits is added.
-- Assumes nothing.
use mathlib.Core.Path.{ap, ap₂, ◌∙◌}
use lib.Bits.{bit_xor}
use Rattle.remainders.specs.Seen.{seen}
use Rattle.remainders.specs.Taking.{turn_by_8, eight_by}
use Rattle.remainders.proofs.Seen.turn8.Goals as goal

pub returns : goal.returns
unfolding turn_by_8 eight_by
returns c =
    let two = c.xor-added.ensures ∙ ap₂ bit_xor c.entry.ensures c.entry-2.ensures in
    c.xor.ensures ∙ ap₂ bit_xor c.up8.ensures (two ∙ ap (eight_by (seen c.args.self.now)) c.top8-at.ensures.0)
