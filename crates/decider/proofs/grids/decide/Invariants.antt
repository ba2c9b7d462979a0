-- `decider::grids::decide` meets its contract: OFDM symbol after OFDM symbol.
-- Assumes nothing.
use Rattle.decider.proofs.Growing.{Underway}
use Rattle.decider.proofs.grids.decide.Given as goal

abbrev pub invariant-loop-k : goal.invariant-loop-k
invariant-loop-k g l = Underway (g.T.Tables.all l.tables) l.m l.i l.q l.initial.oi l.initial.oq l.k l.oi l.oq
