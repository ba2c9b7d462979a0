-- `payload::ahead::shift_bits` meets its contract: fourteen formed bits after the other, and the few that are left.
-- Assumes nothing.
use Rattle.std.proofs.Common.{◌≡◌, ◌*◌, ◌^◌, ◌<◌}
use Rattle.payload.specs.Scrambler.{register_after}
use Rattle.payload.proofs.ahead.shift_bits.Given as goal

abbrev pub invariant-loop : goal.invariant-loop
invariant-loop l = (l.s < 2 ^ 15) × (l.s ≡ register_after (14 * l.counter) l.register)
