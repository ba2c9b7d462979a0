-- `symbols::grid::carrier_of` meets its contract: each arm is a part of the symbols.
-- Assumes nothing.
use mathlib.Core.Path.{◌≡◌, sym, ap, ◌∙◌}
use native.Mathlib.Omega.{arith}
use Rattle.symbols.specs.Grid.{carrier_of}
use Rattle.symbols.proofs.Placement.{carrier_of-zero, carrier_of_low, carrier_of_high, carrier_of_beyond}
use Rattle.symbols.proofs.grid.carrier_of.Goals as goal

pub returns-in-1-to-105 : goal.returns-in-1-to-105
returns-in-1-to-105 c = sym (carrier_of_low _ (omega arith) (omega arith))

pub returns-in-106-to-210 : goal.returns-in-106-to-210
returns-in-106-to-210 c = sym (carrier_of_high _ (omega arith) (omega arith))

pub returns-in_default : goal.returns-in_default
returns-in_default c = let z : c.args.s ≡ 0 = omega arith in sym (ap carrier_of z ∙ carrier_of-zero)

pub returns-in_default-2 : goal.returns-in_default-2
returns-in_default-2 c = sym (carrier_of_beyond _ (omega arith))
