-- `bits::put_front` meets its contract: the first k elements are put.
-- Assumes nothing.
use Rattle.std.proofs.Common.{◌≡◌, ◌++◌, drop, take}
use Rattle.bits.proofs.put_front.Given as goal

abbrev pub invariant-loop-k : goal.invariant-loop-k
invariant-loop-k l = l.to ≡ take l.k l.from ++ drop l.k l.initial.to
