-- `symbols::quick::amiss` meets its contract: where x is 0, the points before s passed.
-- Assumes nothing.
use mathlib.Core.Path.{◌≡◌}
use Prim.Native.Nat.{ℕ, ◌+◌, ◌<◌}
use lib.IntN.{pos}
use lib.ListN.{get_or}
use Rattle.symbols.specs.Quick.{PassedBy}
use Rattle.symbols.proofs.quick.amiss.Given as goal

abbrev pub invariant-loop-s : goal.invariant-loop-s
invariant-loop-s l = l.x ≡ 0 → (t : ℕ) → t < l.s → PassedBy l.scheme.entries.now (l.from + t) (get_or l.i t (pos 0)) (get_or l.q t (pos 0))
