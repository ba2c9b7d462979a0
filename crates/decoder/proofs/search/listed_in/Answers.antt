-- `decoder::search::listed_in` meets its contract: with what is left of x still to be listed, all of x is.
-- Assumes nothing.
use mathlib.Core.Path.{◌≡◌, refl, sym, ap, ◌∙◌}
use Prim.Native.Nat.{ℕ, ◌<◌}
use native.Mathlib.Omega.{arith}
use lib.ListN.{length}
use Rattle.bits.specs.Words.{digits}
use Rattle.decoder.specs.Marks.{ones_from, all_more}
use Rattle.decoder.specs.declared.search.Flips.{Flips}
use Rattle.decoder.proofs.Ones.{ones_first, left_less}
use Rattle.decoder.proofs.Listings.{row_few, row_done, row_next}
use Rattle.decoder.proofs.search.listed_in.Goals as goal

pub loop-rest-init : goal.loop-rest-init
loop-rest-init c =
    let few = row_few c.args.from c.args.x in
    (omega arith, omega (arith, few), refl)

pub loop-rest-smaller : goal.loop-rest-smaller
loop-rest-smaller c =
    let loop = c.loop-rest in
    let some : 0 < loop.rest = omega arith in
    left_less _ some loop.invariant.0

pub loop-rest-preserved : goal.loop-rest-preserved
loop-rest-preserved c =
    let rest = c.loop-rest.rest in
    let from = c.args.from in
    let inv = c.loop-rest.invariant in
    let some : 0 < rest = omega arith in
    let one = ap length (ones_first rest some inv.0 from) in (
      omega (arith, left_less rest some inv.0),
      omega (arith, one, inv.1),
      rw c.put_place.ensures (row_next (record { count = c.loop-rest.count; places = c.loop-rest.places }) from rest some inv.0 ∙ inv.2),
    )

pub returns : goal.returns
returns c =
    let from = c.args.from in
    let flips : Flips = record { count = c.loop-rest.count; places = c.loop-rest.places } in
    let none : c.loop-rest.rest ≡ 0 = omega arith in
    sym (row_done flips from) ∙ ap (λ (n : ℕ). all_more flips (ones_from from (digits 64 n))) (sym none) ∙ c.loop-rest.invariant.2
