-- `decoder::search::listing` meets its contract: with the machine words from the w-th on still to be listed, all places are.
-- Assumes nothing.
use Prim.Native.Nat.{◌*◌, ◌≤◌}
use Rattle.decoder.proofs.Listings.{Rest}
use Rattle.decoder.proofs.search.listing.Given as goal

abbrev pub invariant-loop-w : goal.invariant-loop-w
invariant-loop-w l = (l.count ≤ 64 * l.w) × Rest l.marks l.w (record { count = l.count; places = l.places })
