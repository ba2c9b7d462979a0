-- `decoder::search::mark_row` meets its contract: the digits below l are taken in.
-- Assumes nothing.
use Prim.Native.Nat.{◌-◌}
use Rattle.decoder.proofs.LowestDigits.{Walked}
use Rattle.decoder.proofs.search.mark_row.Given as goal

abbrev pub invariant-loop-rest : goal.invariant-loop-rest
invariant-loop-rest l = Walked l.x l.base l.n l.initial.out l.out l.rest l.l

abbrev pub decreases-loop-rest : goal.decreases-loop-rest
decreases-loop-rest l = 64 - l.l
