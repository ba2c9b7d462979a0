-- `payload::scrambler::form` meets its contract: a digit added to a digit is a digit.
-- Assumes nothing.
use mathlib.Core.Path.{refl}
use Rattle.payload.specs.Scrambler.{formed}
use Rattle.payload.proofs.Scrambling.{formed-lt}
use Rattle.payload.proofs.scrambler.form.Goals as goal

pub returns : goal.returns
unfolding formed
returns c = (refl, formed-lt c.args.register)
