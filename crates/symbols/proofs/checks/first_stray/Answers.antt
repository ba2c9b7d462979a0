-- `symbols::checks::first_stray` meets its contract: none of the points before the place is stray.
-- Assumes nothing.
use mathlib.Core.Path.{◌≡◌, sym, ap, ◌∙◌}
use Prim.Native.Nat.{◌*◌}
use native.Mathlib.Nat.{zero-add}
use native.Mathlib.Omega.{arith}
use lib.IntN.{pos}
use lib.ListN.{get_or}
use mir.Syntax.{w16}
use mir.ValLaws.{to_z-of_z}
use Rattle.ground.specs.First.{up_from}
use Rattle.ground.proofs.Firsts.{first_here, first_later, first_end, length_up, up_at}
use Rattle.symbols.specs.Faults.{stray_by}
use Rattle.symbols.proofs.Indices.{index_lt}
use Rattle.symbols.proofs.checks.first_stray.Goals as goal
use Rattle.symbols.proofs.checks.first_stray.Goals.{After-is_stray}

-- the point that is looked at is the one at the place
seen : (g : _) (c : After-is_stray g)
    → c.is_stray.result ≡ stray_by (g.R.Reads.strays c.args.read) c.args.i.now c.args.q.now (get_or (up_from 0 (210 * c.args.m)) c.loop-place.place 0)
seen g c =
    let a = c.args in
    let k = c.index-k in
    let place = c.loop-place.place in
    let strays = g.R.Reads.strays a.read in
    let here : get_or (up_from 0 (210 * a.m)) place 0 ≡ place = up_at 0 (210 * a.m) place (omega arith) ∙ zero-add place in
    rw (
      to_z-of_z w16 (get_or a.i.now k.result (pos 0)) (record { sfits = c.is_stray-arg-1.given }),
      to_z-of_z w16 (get_or a.q.now k.result (pos 0)) (record { sfits = c.is_stray-arg-in-loop-place-1.given }),
      k.ensures,
    ) at c.is_stray.ensures
    ∙ sym (ap (stray_by strays a.i.now a.q.now) here)

pub offset_bounds-i-k : goal.offset_bounds-i-k
offset_bounds-i-k g c = omega (arith, index_lt c.args.m c.loop-place.place (omega arith))

pub bounds-i-k : goal.bounds-i-k
bounds-i-k g c = omega (arith, index_lt c.args.m c.loop-place.place (omega arith))

pub offset_bounds-q-k : goal.offset_bounds-q-k
offset_bounds-q-k g c = omega (arith, index_lt c.args.m c.loop-place.place (omega arith))

pub bounds-q-k : goal.bounds-q-k
bounds-q-k g c = omega (arith, index_lt c.args.m c.loop-place.place (omega arith))

pub returns-then-is_stray : goal.returns-then-is_stray
returns-then-is_stray g c =
    let l = c.loop-place in
    first_here _ 0 _ l.place l.invariant (sym (seen g (goal.at.returns-then-is_stray g c).After-is_stray) ∙ c.if-is_stray.true)

pub loop-place-preserved : goal.loop-place-preserved
loop-place-preserved g c =
    let l = c.loop-place in
    let long = length_up 0 (210 * c.args.m) in
    first_later _ 0 _ l.place l.invariant (omega (arith, long)) (sym (seen g (goal.at.loop-place-preserved g c).After-is_stray) ∙ c.if-is_stray.false)

pub returns : goal.returns
returns g c = first_end _ 0 _ (210 * c.args.m) (omega (arith, c.loop-place.invariant)) (omega (arith, length_up 0 (210 * c.args.m)))
