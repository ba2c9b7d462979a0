-- `symbols::grid::carrier` meets its contract: each arm is a part of the grid.
-- Assumes nothing.
use mathlib.Core.Path.{ap, sym, ◌∙◌}
use native.Mathlib.Omega.{arith}
use Rattle.symbols.specs.Grid.{carrier_at}
use Rattle.symbols.proofs.Placement.{carrier_zero, carrier_low, carrier_middle, carrier_high, carrier_beyond}
use Rattle.symbols.proofs.grid.carrier.Goals as goal

pub returns-in-0 : goal.returns-in-0
returns-in-0 c = sym (ap carrier_at c.in-0.is ∙ carrier_zero)

pub returns-in-1-to-105 : goal.returns-in-1-to-105
returns-in-1-to-105 c = sym (carrier_low _ (omega (arith, c.in-1-to-105.in_default-own.rest.1)) (omega arith))

pub returns-in-106-to-150 : goal.returns-in-106-to-150
returns-in-106-to-150 c = sym (carrier_middle _ (omega arith) (omega arith))

pub returns-then-k-le255 : goal.returns-then-k-le255
returns-then-k-le255 c = sym (carrier_high _ (omega arith) (omega arith))

pub returns-else-k-le255 : goal.returns-else-k-le255
returns-else-k-le255 c = sym (carrier_beyond _ (omega arith))
