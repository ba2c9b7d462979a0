-- `decoder::search::listing` meets its contract: with the machine words from the w-th on still to be listed, all places are.
-- Assumes nothing.
use mathlib.Core.Path.{ap}
use Prim.Native.Nat.{◌*◌, ◌<◌}
use native.Mathlib.Omega.{arith}
use lib.ListN.{get_or}
use Rattle.decoder.specs.declared.search.Flips.{Flips}
use Rattle.decoder.proofs.Listings.{row_count, rest_all, rest_next, rest_none}
use Rattle.decoder.proofs.search.listing.Goals as goal

pub loop-w-init : goal.loop-w-init
loop-w-init c = (omega arith, rest_all c.args.marks.now)

pub loop-w-preserved : goal.loop-w-preserved
loop-w-preserved c =
    let marks = c.args.marks.now in
    let w = c.loop-w.w in
    let flips : Flips = record { count = c.loop-w.count; places = c.loop-w.places } in
    let count = ap (λ (f : Flips). f.count) c.listed_in-count.ensures in
    let few = row_count flips (64 * w) (get_or marks w 0) in
    let below : w < 8 = omega arith in (
      omega (arith, count, few, c.loop-w.invariant.0),
      rw c.listed_in-count.ensures (rest_next marks w flips below c.loop-w.invariant.1),
    )

pub returns : goal.returns
returns c = rest_none c.args.marks.now c.loop-w.w _ (omega arith) c.loop-w.invariant.1
