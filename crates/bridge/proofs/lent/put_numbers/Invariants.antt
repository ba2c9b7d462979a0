-- `bridge::lent::put_numbers` meets its contract: the numbers before k are written.
-- Assumes nothing.
use mathlib.Core.Path.{◌≡◌}
use mathlib.Core.List.{◌++◌}
use Prim.Native.Nat.{◌*◌}
use lib.ListN.{get_or, drop}
use Rattle.bridge.specs.Streams.{spread}
use Rattle.bridge.proofs.lent.put_numbers.Given as goal

abbrev pub invariant-loop-k : goal.invariant-loop-k
invariant-loop-k l = l.out ≡ spread l.k (λ j. get_or l.numbers j 0) ++ drop (8 * l.k) l.initial.out
