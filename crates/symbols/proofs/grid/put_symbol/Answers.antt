-- `symbols::grid::put_symbol` meets its contract: each part stands behind those that are written before it.
-- Assumes nothing.
use mathlib.Core.Path.{sym, ap, ◌∙◌}
use native.Mathlib.Omega.{arith}
use borrow.Rule.Slice.PartMut.{mid_len}
use lib.ListN.{take, drop}
use Rattle.symbols.specs.Grids.{levels_from}
use Rattle.symbols.proofs.Halves.{levels_parts, front_none, front_more, front_zeros, front_all}
use Rattle.symbols.proofs.grid.put_symbol.Goals as goal

pub returns : goal.returns
returns c =
    let levels = c.args.levels.now in
    let none = front_none c.args.out.now c.requires.1 in
    let one = front_zeros 0 1 (omega arith) (omega arith) _ c.clear.ensures none in
    let low = front_more 1 106 (omega arith) (omega arith) _ (take 105 (drop 105 levels)) (mid_len 105 210 levels (omega arith)) c.copy.ensures one in
    let middle = front_zeros 106 151 (omega arith) (omega arith) _ c.clear-2.ensures low in
    let high = front_more 151 256 (omega arith) (omega arith) _ (take 105 levels) (mid_len 0 105 levels (omega arith)) c.copy-2.ensures middle in
    front_all high ∙ sym (ap (levels_from levels 0) c.requires.1 ∙ levels_parts levels c.requires.0)
