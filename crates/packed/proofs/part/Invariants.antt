-- `packed::part` meets its contract: eight bits a turn, then one, and all of them moved up.
-- Assumes nothing.
use Rattle.std.proofs.Common.{length, ◌+◌, ◌*◌, ◌/◌}
use Rattle.bits.specs.Words.{lowest}
use Rattle.packed.proofs.Runs.{Taken}
use Rattle.packed.proofs.part.Given as goal

abbrev pub invariant-loop-eight : goal.invariant-loop-eight
invariant-loop-eight l = Taken (lowest l.word) (8 * l.eight-index) l.x

abbrev pub invariant-loop-b : goal.invariant-loop-b
invariant-loop-b l = Taken (lowest l.word) (8 * (length l.word / 8) + l.b-index) l.x
