-- `symbols::phases::dibits` meets its contract: the bits of the turns so far are written, and those of the turns left follow.
-- Assumes nothing.
use mathlib.Core.Path.{◌≡◌}
use mathlib.Core.List.{List, ◌++◌}
use Prim.Native.Nat.{ℕ, ◌*◌}
use lib.ListN.{length, take, drop}
use Rattle.symbols.specs.ByPhase.{dibits_between}
use Rattle.symbols.proofs.phases.dibits.Given as goal

-- the bits of s turns are written, and those of the turns left follow, from the phase of the last
pub record Begun (phase : ℕ) (phases bits : List ℕ) (last s : ℕ) : Type 0 where
  pub long : length bits ≡ 2 * length phases
  pub on : take (2 * s) bits ++ dibits_between last (drop s phases) ≡ dibits_between phase phases

abbrev pub invariant-loop-s : goal.invariant-loop-s
invariant-loop-s l = Begun l.phase l.phases l.bits l.last l.s
