-- `payload::scrambler::shift8` meets its contract: eight digits fall out, and what is formed comes in.
-- Assumes nothing.
use mathlib.Core.Path.{refl}
use Rattle.payload.proofs.Forming.{shifted_in}
use Rattle.payload.proofs.scrambler.shift8.Goals as goal

pub returns : goal.returns
returns c = let k = c.form8 in rw c.from.ensures (shifted_in 7 7 k.result c.args.register refl k.type_inv k.ensures)
