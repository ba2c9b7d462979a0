-- `payload::scrambler::scramble` meets its contract: turns of eight, and then of one.
-- Assumes nothing.
use Rattle.std.proofs.Common.{◌*◌}
use Rattle.payload.proofs.Turns.{Turned}
use Rattle.payload.proofs.scrambler.scramble.Given as goal

abbrev pub invariant-loop-k : goal.invariant-loop-k
invariant-loop-k l = Turned l.fn.bits l.fn.register l.bits l.after (8 * l.k)

abbrev pub invariant-loop-i : goal.invariant-loop-i
invariant-loop-i l = Turned l.fn.bits l.fn.register l.bits l.after l.i
