-- `symbols::phases::put_phases` meets its contract: the phases so far are those that the points are read as.
-- Assumes nothing.
use mathlib.Core.Path.{◌≡◌}
use mathlib.Core.List.{List}
use Prim.Native.Nat.{ℕ, ◌<◌}
use lib.IntN.{ℤ, pos}
use lib.ListN.{length, get_or}
use Rattle.points.specs.Lent.{phase_read}
use Rattle.symbols.proofs.phases.put_phases.Given as goal

-- the first n phases are those of the points
abbrev pub Put : List ℤ → List ℤ → List ℕ → ℕ → Type 0
Put is qs out n = (s : ℕ) → s < n → get_or out s 0 ≡ phase_read (get_or is s (pos 0)) (get_or qs s (pos 0))

abbrev pub invariant-loop-s : goal.invariant-loop-s
invariant-loop-s l = (length l.out ≡ length l.initial.out) × Put l.i l.q l.out l.s
