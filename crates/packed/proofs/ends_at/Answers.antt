-- `packed::ends_at` meets its contract: the machine words are those that `first` keeps where they have the same bits.
-- Assumes nothing.
use borrow.Author.Rules.{rules}
use lib.ListN.{get_or}
use mir.Syntax.{w64}
use mir.Val.{Fits}
use Rattle.packed.proofs.Endings.{ends}
use Rattle.packed.proofs.ends_at.Goals as goal

pub returns : goal.returns
returns c =
    let kept = c.first.result in
    let fits : (i : _) → Fits w64 (get_or kept i 0) = λ i. search rules in
    ends c.args.words.now kept c.args.n c.first.ensures (search rules) c.told-words (λ i. (fits i).fits) c.fits-words _ c.eq.ensures
