-- `symbols::grid::copy` meets its contract: the levels so far are those that are copied.
-- Assumes nothing.
use mathlib.Core.Path.{◌≡◌}
use lib.ListN.{length, take}
use Rattle.symbols.proofs.grid.copy.Given as goal

abbrev pub invariant-loop-k : goal.invariant-loop-k
invariant-loop-k l = (length l.out ≡ length l.initial.out) × (take l.k l.out ≡ take l.k l.levels)
