-- `symbols::scheme::is_scheme` meets its contract: none is outside as long as no entry before s is.
-- Assumes nothing.
use mathlib.Core.Path.{◌≡◌}
use mathlib.Core.Bool.{not}
use lib.Dec.{leb}
use Rattle.symbols.specs.Schemes.{bad_entry}
use Rattle.symbols.proofs.scheme.is_scheme.Given as goal

abbrev pub invariant-loop-s : goal.invariant-loop-s
invariant-loop-s l = l.outside ≡ not (leb l.s (bad_entry l.scheme))
