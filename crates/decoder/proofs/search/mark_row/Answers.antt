-- `decoder::search::mark_row` meets its contract: the digits below l are taken in.
-- Assumes nothing.
use mathlib.Core.Path.{refl}
use native.Mathlib.Omega.{arith}
use Rattle.decoder.proofs.LowestDigits.{walked_low, walked_next, walked_all}
use borrow.Author.Rules.{rules}
use Rattle.decoder.proofs.search.mark_row.Goals as goal

pub mark_root-requires : goal.mark_root-requires
mark_root-requires c =
    let loop = c.loop-rest in
    let low = walked_low _ _ _ _ c.ranges.x.fits _ _ _ loop.invariant _ c.below-k.ensures in
    (omega arith, c.requires.1)

pub loop-rest-preserved : goal.loop-rest-preserved
loop-rest-preserved c =
    let loop = c.loop-rest in
    walked_next _ _ _ _ c.ranges.x.fits _ _ _ loop.invariant _ _ _ _ c.below-k.ensures refl refl c.mark_root.ensures

pub returns : goal.returns
returns c =
    let loop = c.loop-rest in
    walked_all _ _ _ _ c.ranges.x.fits _ _ _ loop.invariant (search rules)
