-- `sender_b::sender::fill` meets its contract: piece after piece.
-- Assumes nothing.
use Prim.Native.Nat.{◌+◌, ◌-◌, ◌<◌}
use lib.ListN.{length}
use Rattle.payload_b.specs.ModesB.{number_of}
use Rattle.sender_b.specs.Steps.{Ready, Grows}
use Rattle.sender_b.proofs.sender.fill.Given as goal

abbrev pub invariant-loop-mode : goal.invariant-loop-mode
invariant-loop-mode l = Ready (number_of l.mode) l.frame l.run.going × (l.run.going.count < l.sum + 512) × Grows (number_of l.mode) l.frame l.initial.run l.run

abbrev pub decreases-loop-mode : goal.decreases-loop-mode
decreases-loop-mode l = length l.frame - l.run.going.at
