-- `receiver_b::stream::take_symbols` meets its contract: the first s OFDM symbols are taken in.
-- Assumes nothing.
use Rattle.packed.specs.Packed.{bits512}
use Rattle.payload_b.specs.ModesB.{number_of}
use Rattle.receiver_b.specs.Steps.{Enters}
use Rattle.receiver_b.proofs.Receiving.{bits_read}
use Rattle.receiver_b.proofs.stream.take_symbols.Given as goal

abbrev pub invariant-loop-s : goal.invariant-loop-s
invariant-loop-s l =
    let from = l.initial.state in
    Enters (number_of l.plan.mode) l.plan.blocks (bits_read l.scheme.entries.now l.i l.q l.s) l.initial.area (bits512 from.block) from.tally l.area (bits512 l.state.block) l.state.tally
