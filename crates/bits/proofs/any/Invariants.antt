-- `bits::any` meets its contract: where all is below 2, no element so far is bad.
-- Assumes nothing.
use Rattle.std.proofs.Common.{◌<◌, ◌≤◌}
use Rattle.bits.specs.Words.{first_bad}
use Rattle.bits.proofs.any.Given as goal

abbrev pub invariant-loop-b : goal.invariant-loop-b
invariant-loop-b l = l.all < 2 → l.b-index ≤ first_bad l.word
