-- `decoder::locator::moved` meets its contract: the entries before i are those of the list with two 0s in front.
-- Assumes nothing.
use mathlib.Core.Path.{◌≡◌}
use mathlib.Core.List.{◌∷◌}
use lib.ListN.{length, take}
use Rattle.decoder.proofs.locator.moved.Given as goal

abbrev pub invariant-loop-i : goal.invariant-loop-i
invariant-loop-i l = (length l.out ≡ 34) × (take l.i l.out ≡ take l.i (0 ∷ 0 ∷ l.p))
