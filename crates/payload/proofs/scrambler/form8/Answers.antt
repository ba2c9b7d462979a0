-- `payload::scrambler::form8` meets its contract: the first eight of fourteen.
-- Assumes nothing.
use Rattle.payload.proofs.Forming.{first_formed}
use Rattle.payload.proofs.scrambler.form8.Goals as goal

pub returns : goal.returns
returns c = first_formed 8 6 _ c.args.register c.form14.ensures.0
