-- `symbols::quick::any` meets its contract: where x is 0, so are the levels before k.
-- Assumes nothing.
use mathlib.Core.Path.{◌≡◌}
use Prim.Native.Nat.{ℕ, ◌<◌}
use lib.IntN.{pos}
use lib.ListN.{get_or}
use Rattle.symbols.proofs.quick.any.Given as goal

abbrev pub invariant-loop-k : goal.invariant-loop-k
invariant-loop-k l = l.x ≡ 0 → (j : ℕ) → j < l.k → get_or l.levels j (pos 0) ≡ pos 0
