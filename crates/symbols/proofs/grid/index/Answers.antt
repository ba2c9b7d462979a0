-- `symbols::grid::index` meets its contract, by the place that s has.
-- Assumes nothing.
use mathlib.Core.Path.{ap, ◌∙◌}
use Prim.Native.Nat.{◌+◌, ◌*◌, ◌/◌, ◌%◌}
use native.Mathlib.Numerals.{add-one}
use native.Mathlib.Omega.{arith}
use Rattle.symbols.specs.Grid.{carrier_of}
use Rattle.symbols.specs.Grids.{index_of}
use Rattle.symbols.proofs.Indices.{carrier_of-lt}
use Rattle.symbols.proofs.grid.index.Goals as goal

pub overflow_add-result : goal.overflow_add-result
overflow_add-result c = omega (arith, c.from-at.ensures, carrier_of-lt (c.from-at.result % 210 + 1))

pub returns : goal.returns
unfolding index_of
returns c =
    let at = c.from-at.result in
    ap (λ k. 256 * (at / 210) + k) (c.carrier_of.ensures ∙ ap carrier_of (add-one (at % 210))) ∙ ap index_of c.from-at.ensures
