-- `decoder::search::marked` meets its contract: the zeros of the first w machine words are taken in.
-- Assumes nothing.
use Prim.Native.Nat.{◌*◌}
use Rattle.decoder.specs.Marks.{Placed}
use Rattle.decoder.proofs.search.marked.Given as goal

abbrev pub invariant-loop-w : goal.invariant-loop-w
invariant-loop-w l = Placed l.zeros l.n (64 * l.w) l.out
