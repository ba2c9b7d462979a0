-- `packed::full` meets its contract: eight bits a turn.
-- Assumes nothing.
use Rattle.std.proofs.Common.{◌*◌}
use Rattle.bits.specs.Words.{lowest}
use Rattle.packed.proofs.Runs.{Taken}
use Rattle.packed.proofs.full.Given as goal

abbrev pub invariant-loop-eight : goal.invariant-loop-eight
invariant-loop-eight l = Taken (lowest l.word) (8 * l.eight-index) l.x
