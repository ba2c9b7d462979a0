-- `decoder::elements::write` meets its contract. The loop's invariant: the word stands in front, with the first j places flipped.
-- Assumes nothing.
use Rattle.decoder.proofs.Flippings.{Front}
use Rattle.decoder.proofs.elements.write.Given as goal

abbrev pub invariant-loop-j : goal.invariant-loop-j
invariant-loop-j l = Front l.places l.word l.fn.out l.j l.out
