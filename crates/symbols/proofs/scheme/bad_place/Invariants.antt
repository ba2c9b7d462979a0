-- `symbols::scheme::bad_place` meets its contract: no entry before s is outside.
-- Assumes nothing.
use Prim.Native.Nat.{◌≤◌}
use Rattle.symbols.specs.Schemes.{bad_entry}
use Rattle.symbols.proofs.scheme.bad_place.Given as goal

abbrev pub invariant-loop-s : goal.invariant-loop-s
invariant-loop-s l = l.s ≤ bad_entry l.entries
