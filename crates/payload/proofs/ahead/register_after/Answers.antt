-- `payload::ahead::register_after` meets its contract: the register is what it was the last time round, and there it is read.
-- Assumes nothing.
use mathlib.Core.Path.{ap, ◌∙◌}
use Prim.Native.Nat.{◌%◌, ◌*◌}
use Rattle.payload.specs.Scrambler.{register_after}
use Rattle.payload.proofs.Periods.{period, register_read}
use Rattle.payload.proofs.ahead.register_after.Goals as goal

pub returns : goal.returns
returns c =
    let n = c.args.bytes in
    c.shift_bits.ensures ∙ ap (register_after (n % period * 8 % period % 128)) c.entry.ensures.0 ∙ register_read n
