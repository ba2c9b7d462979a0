-- `symbols::grid::first_occupied` meets its contract: none of the sub-carriers before k is occupied.
-- Assumes nothing.
use mathlib.Core.Path.{◌≡◌, sym, ap, ◌∙◌}
use native.Mathlib.Omega.{arith}
use native.Mathlib.Nat.{zero-add}
use lib.ListN.{get_or}
use mir.Syntax.{w16}
use mir.ValLaws.{to_z-of_z}
use Rattle.ground.specs.First.{up_from}
use Rattle.ground.proofs.Firsts.{first_here, first_later, first_end, length_up, up_at}
use Rattle.symbols.specs.Grids.{occupied_at}
use Rattle.symbols.proofs.grid.first_occupied.Goals as goal
use Rattle.symbols.proofs.grid.first_occupied.Goals.{After-is_occupied}

-- the index that is looked at is the one at k
seen : (c : After-is_occupied)
    → c.is_occupied.result ≡ occupied_at c.args.i.now c.args.q.now (get_or (up_from 0 c.args.n) c.loop-k.k 0)
seen c =
    let s = c.args in
    let k = c.loop-k.k in
    let here : get_or (up_from 0 s.n) k 0 ≡ k = up_at 0 s.n k (omega arith) ∙ zero-add k in
    rw (
      to_z-of_z w16 c.level_at.result (record { sfits = c.level_at.type_inv }) ∙ c.level_at.ensures,
      to_z-of_z w16 c.level_at-in-loop-k.result (record { sfits = c.level_at-in-loop-k.type_inv }) ∙ c.level_at-in-loop-k.ensures,
    )
    at c.is_occupied.ensures
    ∙ sym (ap (occupied_at s.i.now s.q.now) here)

pub returns-then-is_occupied : goal.returns-then-is_occupied
returns-then-is_occupied c =
    let l = c.loop-k in
    first_here _ 0 _ l.k l.invariant (sym (seen (goal.at.returns-then-is_occupied c).After-is_occupied) ∙ c.if-is_occupied.true)

pub loop-k-preserved : goal.loop-k-preserved
loop-k-preserved c =
    let l = c.loop-k in
    let long = length_up 0 c.args.n in
    first_later _ 0 _ l.k l.invariant (omega (arith, long)) (sym (seen (goal.at.loop-k-preserved c).After-is_occupied) ∙ c.if-is_occupied.false)

pub returns : goal.returns
returns c = first_end _ 0 _ c.args.n (omega (arith, c.loop-k.invariant)) (omega (arith, length_up 0 c.args.n))
