-- `symbols::quick::passes` meets its contract: sub-carriers 0 and 106 to 150 are unavailable, and the two halves hold the points.
-- Assumes nothing.
use mathlib.Core.Path.{sym}
use Rattle.symbols.specs.Quick.{Legal}
use Rattle.symbols.proofs.Rooms.{both_true}
use Rattle.symbols.proofs.Looks.{part_held, all_seen}
use Rattle.symbols.proofs.quick.passes.Goals as goal

pub returns : goal.returns
returns g c = λ e.
    let i = c.args.i.now in
    let q = c.args.q.now in
    let P = Legal (g.R.Reads.strays c.args.read) in
    let four = both_true _ _ (sym e) in
    let three = both_true _ _ (sym four.0) in
    let two = both_true _ _ (sym three.0) in
    all_seen P i q (part_held P i q 0 151 (c.passes.ensures three.1)) (part_held P i q 105 1 (c.passes-2.ensures four.1))
    (c.is_empty.ensures two.0) (c.is_empty-2.ensures two.1)
