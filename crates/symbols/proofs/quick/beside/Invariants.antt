-- `symbols::quick::beside` meets its contract: where x is 0, the sizes of the levels before s are 0 and 1.
-- Assumes nothing.
use mathlib.Core.Path.{◌≡◌}
use Prim.Native.Nat.{ℕ, ◌<◌}
use lib.IntN.{pos}
use lib.ListN.{get_or}
use Rattle.symbols.specs.Quick.{Single}
use Rattle.symbols.proofs.quick.beside.Given as goal

abbrev pub invariant-loop-s : goal.invariant-loop-s
invariant-loop-s l = l.x ≡ 0 → (t : ℕ) → t < l.s → Single t (get_or l.i t (pos 0)) (get_or l.q t (pos 0))
