-- `remainders::Seen::turn16` meets its contract: what is left of the register moves up, and what the table has for its highest digits is added.
-- Assumes nothing.
use mathlib.Core.Path.{ap, ap₂, ◌∙◌}
use lib.Bits.{bit_xor}
use Rattle.remainders.specs.Seen.{seen}
use Rattle.remainders.specs.Taking.{turn_by_16, sixteen_by}
use Rattle.remainders.proofs.Seen.turn16.Goals as goal

pub returns : goal.returns
unfolding turn_by_16
returns c = c.xor.ensures ∙ ap₂ bit_xor c.up16.ensures (c.sixteen.ensures ∙ ap (sixteen_by (seen c.args.self.now)) c.top16.ensures.0)
