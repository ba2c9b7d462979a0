-- `symbols::scheme::read` meets its contract: by our table, lent, what is read is what ours reads.
-- Assumes nothing.
use mathlib.Core.Path.{ap, ◌∙◌}
use mathlib.Core.List.{◌++◌}
use lib.ListN.{take}
use Rattle.packed.specs.Packed.{bits512, padded_to}
use Rattle.symbols.proofs.ReadIn.{symbol_ours}
use Rattle.symbols.proofs.scheme.read.Goals as goal

pub returns : goal.returns
returns c =
    let a = c.args in
    c.read_in.ensures
    ∙ ap (λ bits. padded_to 2624 (take a.count (bits512 a.front) ++ bits)) (symbol_ours _ c.quadrant_table.ensures a.scheme.now a.i.now a.q.now)
