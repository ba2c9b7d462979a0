-- `decoder::syndrome::take` meets its contract: the sums before l have made their step.
-- Assumes nothing.
use Prim.Native.Nat.{◌<◌}
use Rattle.bits.specs.Words.{digits}
use Rattle.decoder.proofs.Horners.{TakenBelow}
use Rattle.decoder.proofs.syndrome.take.Given as goal

abbrev pub invariant-loop-l : goal.invariant-loop-l
invariant-loop-l l = (l.b < 256) × TakenBelow (digits l.m l.b) l.initial.sums l.sums l.l
