-- `decider::grids::decide` meets its contract: OFDM symbol after OFDM symbol.
-- Assumes nothing.
use native.Mathlib.Omega.{arith}
use Rattle.decider.proofs.Growing.{underway_none, underway_all, symbol_there, underway_more}
use Rattle.decider.proofs.grids.decide.Goals as goal

pub loop-k-init : goal.loop-k-init
loop-k-init g c = underway_none (g.met.T.Tables.grows c.args.tables) c.requires

pub decide-requires : goal.decide-requires
decide-requires g c = symbol_there (g.met.T.Tables.grows c.args.tables) c.requires c.loop-k.invariant (omega arith)

pub loop-k-preserved : goal.loop-k-preserved
loop-k-preserved g c =
    let one = c.decide.ensures in
    underway_more (g.met.T.Tables.grows c.args.tables) c.requires c.loop-k.invariant (omega arith) one.0 one.1

pub returns : goal.returns
returns g c = underway_all (g.met.T.Tables.grows c.args.tables) c.requires c.loop-k.invariant (omega arith)
