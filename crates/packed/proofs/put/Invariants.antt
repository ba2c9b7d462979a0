-- `packed::put` meets its contract: machine word after machine word, and what is left of the run behind the last.
-- Assumes nothing.
use Prim.Native.Nat.{◌+◌, ◌/◌}
use Rattle.packed.proofs.Places.{Putting}
use Rattle.packed.proofs.put.Given as goal

abbrev pub invariant-loop-w : goal.invariant-loop-w
invariant-loop-w l = Putting l.initial.out l.bits l.at l.out l.before (l.at / 64 + l.w)
