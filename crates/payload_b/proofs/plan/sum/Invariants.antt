-- `payload_b::plan::sum` meets its contract: n is the sum of the entries so far, each at most 10.
-- Assumes nothing.
use mathlib.Core.Path.{◌≡◌}
use Prim.Native.Nat.{◌*◌, ◌≤◌}
use lib.ListN.{take}
use Rattle.symbols.specs.Schemes.{sum_of}
use Rattle.payload_b.proofs.plan.sum.Given as goal

abbrev pub invariant-loop-entry : goal.invariant-loop-entry
invariant-loop-entry l = (l.n ≡ sum_of (take l.entry-index l.scheme.entries.now)) × (l.n ≤ 10 * l.entry-index)
