-- `symbols::grid::put_each` meets its contract: what is written so far, then the levels of the other sub-carriers.
-- Assumes nothing.
use mathlib.Core.Path.{◌≡◌}
use mathlib.Core.List.{◌++◌}
use Prim.Native.Nat.{◌-◌}
use lib.ListN.{length, take}
use Rattle.symbols.specs.Grids.{levels_from}
use Rattle.symbols.proofs.grid.put_each.Given as goal

abbrev pub invariant-loop-k : goal.invariant-loop-k
invariant-loop-k l = (length l.out ≡ length l.initial.out) × (take l.k l.out ++ levels_from l.levels l.k (length l.initial.out - l.k) ≡ levels_from l.levels 0 (length l.initial.out))
