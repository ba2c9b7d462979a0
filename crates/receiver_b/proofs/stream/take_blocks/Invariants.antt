-- `receiver_b::stream::take_blocks` meets its contract. The loop's invariant: of the bits that wait the first were taken in. The measure is how many wait.
-- Assumes nothing.
use Rattle.packed.specs.Packed.{bits_from}
use Rattle.payload_b.specs.ModesB.{number_of}
use Rattle.receiver_b.specs.Steps.{Shortens}
use Rattle.receiver_b.proofs.stream.take_blocks.Given as goal

abbrev pub invariant-loop-plan : goal.invariant-loop-plan
invariant-loop-plan l = Shortens (number_of l.plan.mode) l.plan.blocks l.initial.area (bits_from 41 0 l.run) l.initial.tally l.area l.tally

abbrev pub decreases-loop-plan : goal.decreases-loop-plan
decreases-loop-plan l = l.tally.count
