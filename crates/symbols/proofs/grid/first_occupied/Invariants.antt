-- `symbols::grid::first_occupied` meets its contract: none of the sub-carriers before k is occupied.
-- Assumes nothing.
use Prim.Native.Nat.{◌≤◌}
use Rattle.symbols.specs.Grids.{first_occupied}
use Rattle.symbols.proofs.grid.first_occupied.Given as goal

abbrev pub invariant-loop-k : goal.invariant-loop-k
invariant-loop-k l = l.k ≤ first_occupied l.i l.q 0 l.n
