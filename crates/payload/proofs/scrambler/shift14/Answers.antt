-- `payload::scrambler::shift14` meets its contract: fourteen digits fall out, and what is formed comes in.
-- Assumes nothing.
use mathlib.Core.Path.{refl}
use Rattle.payload.proofs.Forming.{shifted_in}
use Rattle.payload.proofs.scrambler.shift14.Goals as goal

pub returns : goal.returns
returns c = let k = c.form14.ensures in shifted_in 1 13 _ c.args.register refl k.1 k.0
