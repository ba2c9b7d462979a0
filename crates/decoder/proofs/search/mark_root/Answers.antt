-- `decoder::search::mark_root` meets its contract.
-- Assumes nothing.
use Rattle.decoder.proofs.Marking.{placed_mark, placed_miss}
use Rattle.decoder.proofs.search.mark_root.Goals as goal

pub returns-then-n-g : goal.returns-then-n-g
returns-then-n-g c = λ z root p. (
    let told = c.mark.ensures p.long in
    placed_mark z _ _ c.requires.1 _ _ c.exponent-g.ensures p root _ told.0 told.1 c.if-n-g.true)

pub returns-else-n-g : goal.returns-else-n-g
returns-else-n-g c = λ z root p. (placed_miss z _ _ c.requires.1 _ _ c.exponent-g.ensures p c.if-n-g.false)
