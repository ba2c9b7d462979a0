-- `symbols::checks::first_stray` meets its contract: none of the points before the place is stray.
-- Assumes nothing.
use Prim.Native.Nat.{◌≤◌}
use Rattle.symbols.specs.Faults.{first_stray}
use Rattle.symbols.proofs.checks.first_stray.Given as goal

abbrev pub invariant-loop-place : goal.invariant-loop-place
invariant-loop-place g l = l.place ≤ first_stray (g.R.Reads.strays l.read) l.m l.i l.q
