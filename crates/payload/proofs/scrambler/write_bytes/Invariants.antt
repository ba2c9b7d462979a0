-- `payload::scrambler::write_bytes` meets its contract: machine word after machine word, and then the bytes of one that is not whole.
-- Assumes nothing.
use Rattle.std.proofs.Common.{length, ◌*◌}
use Rattle.payload.proofs.Writing.{Written}
use Rattle.payload.proofs.scrambler.write_bytes.Given as goal

-- whole machine words so far
abbrev pub invariant-loop-k : goal.invariant-loop-k
invariant-loop-k l = Written l.register l.words (length l.fn.out) l.out l.s (8 * l.k)

-- within the last machine word
abbrev pub invariant-loop-j : goal.invariant-loop-j
invariant-loop-j l = Written l.register l.words (length l.fn.out) l.out l.s l.j
