-- `packed::flipped` meets its contract: where there is such a place, one digit of one machine word changes.
-- Assumes nothing.
use Rattle.packed.proofs.Flips.{flipped_at, flipped_none}
use Rattle.packed.proofs.flipped.Goals as goal

pub returns-then-p-lt512 : goal.returns-then-p-lt512
returns-then-p-lt512 c = let a = c.args in flipped_at a.words.now a.p c.told-words c.if-p-lt512.true

pub returns-else-p-lt512 : goal.returns-else-p-lt512
returns-else-p-lt512 c = let a = c.args in flipped_none a.words.now a.p c.if-p-lt512.false
