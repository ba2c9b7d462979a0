-- `bridge::lent::numbers_in` meets its contract: the numbers before k are read.
-- Assumes nothing.
use mathlib.Core.Path.{◌≡◌}
use Prim.Native.Nat.{◌*◌}
use lib.ListN.{length, take}
use Rattle.bridge.specs.Streams.{each, spread, number_at}
use Rattle.bridge.proofs.lent.numbers_in.Given as goal

abbrev pub invariant-loop-k : goal.invariant-loop-k
invariant-loop-k l =
    (length l.out ≡ 17) × (take l.k l.out ≡ each l.k (λ j. number_at l.bytes (8 * j))) × (spread l.k (λ j. number_at l.bytes (8 * j)) ≡ take (8 * l.k) l.bytes)
