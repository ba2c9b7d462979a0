-- `roots::go_down` meets its contract: Horner's rule in x^3. The counter is the last place done; the first one is `from`.
-- Assumes nothing.
use mathlib.Core.Path.{◌≡◌}
use Prim.Native.Nat.{ℕ, ◌≤◌}
use lib.ListN.{length}
use Rattle.roots.specs.Searches.{Reached}
use Rattle.roots.proofs.go_down.Given as goal

abbrev pub invariant-loop-i : goal.invariant-loop-i
invariant-loop-i l =
    ((n : ℕ) → l.from ≤ n → Reached l.locator n l.initial.sums l.from → Reached l.locator n l.sums l.i) × (length l.sums ≡ 72)
