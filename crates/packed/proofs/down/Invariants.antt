-- `packed::down` meets its contract: machine word after machine word, each put together from the one read last and the next.
-- Assumes nothing.
use mathlib.Core.Path.{◌≡◌}
use mathlib.Core.List.{◌∷◌}
use Prim.Native.Nat.{◌-◌, ◌/◌}
use lib.ListN.{get_or}
use Rattle.packed.proofs.Stores.{Stored}
use Rattle.packed.proofs.Downs.{down_of}
use Rattle.packed.proofs.down.Given as goal

abbrev pub invariant-loop-w : goal.invariant-loop-w
invariant-loop-w l =
    (l.high ≡ get_or (0 ∷ l.words) (l.w - l.k / 64) 0) × Stored (down_of l.words l.k) l.out l.w
