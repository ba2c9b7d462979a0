-- `sender_b::sender::send` meets its contract: OFDM symbol after OFDM symbol.
-- Assumes nothing.
use Rattle.payload_b.specs.ModesB.{number_of}
use Rattle.sender_b.proofs.Turns.{Underway}
use Rattle.sender_b.proofs.sender.send.Given as goal

abbrev pub invariant-loop-s : goal.invariant-loop-s
invariant-loop-s l = Underway (number_of l.plan.mode) l.frame l.scheme.entries.now l.initial.i l.initial.q l.s l.run l.i l.q
