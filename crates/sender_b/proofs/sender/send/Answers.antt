-- `sender_b::sender::send` meets its contract: OFDM symbol after OFDM symbol.
-- Assumes nothing.
use native.Mathlib.Omega.{arith}
use Rattle.sender_b.proofs.Turns.{sum_is, most, underway_none, underway_all, underway_more}
use Rattle.sender_b.proofs.sender.send.Goals as goal

pub loop-s-init : goal.loop-s-init
loop-s-init c = underway_none c.requires

pub fill-run-requires : goal.fill-run-requires
fill-run-requires c =
    let u = c.loop-s.invariant in
    (u.ready, most c.requires, omega (arith, u.few, sum_is c.requires))

pub loop-s-preserved : goal.loop-s-preserved
loop-s-preserved c =
    let write = c.write.ensures in
    underway_more c.requires c.loop-s.invariant (omega arith) c.fill-run.ensures write.0 write.1 c.behind-run.ensures

pub returns : goal.returns
returns c = underway_all c.requires c.loop-s.invariant (omega arith)
