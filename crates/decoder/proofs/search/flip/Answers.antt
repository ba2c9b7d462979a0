-- `decoder::search::flip` meets its contract: the zeros are the locator's, their places are marked, and the copy is the word with the marks added.
-- Assumes nothing.
use Rattle.roots.proofs.Horner.{searched_trim}
use Rattle.decoder.proofs.Marking.{marked_told}
use Rattle.decoder.proofs.Turnings.{turned, copy_padded}
use Rattle.decoder.proofs.search.flip.Goals as goal

pub returns : goal.returns
returns c =
    let marks = c.marked-marks.ensures in
    let sum = c.xor.ensures in
    let searched = searched_trim _ c.args.len _ c.requires.0 c.requires.1 c.zeros-zeros.ensures in
    let told = marked_told _ c.args.len _ c.args.n _ c.requires.2 searched marks in (
      turned _ _ _ c.args.n c.requires.2 sum c.requires.3 marks.behind _ _ _ told c.listing.ensures,
      copy_padded _ _ _ c.args.n c.requires.2 sum c.requires.3 marks.behind,
    )
