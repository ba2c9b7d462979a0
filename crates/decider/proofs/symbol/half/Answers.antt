-- `decider::symbol::half` meets its contract: the levels so far are those of the points decided.
-- Assumes nothing.
use mathlib.Core.Path.{ap, ◌∙◌}
use native.Mathlib.Omega.{arith}
use lib.IntN.{pos}
use lib.ListN.{get_or}
use borrow.Author.Rules.{rules}
use Rattle.points.specs.Constellations.{level_i, level_q}
use Rattle.nearest.proofs.Signed.{held}
use Rattle.decider.proofs.Halves.{decided_none, decided_more, decided_all}
use Rattle.decider.proofs.symbol.half.Goals as goal

pub loop-s-init : goal.loop-s-init
loop-s-init g c = (decided_none level_i _ _ _ _ c.requires.1.long_out_i, decided_none level_q _ _ _ _ c.requires.1.long_out_q)

pub loop-s-preserved : goal.loop-s-preserved
loop-s-preserved g c =
    let l = c.loop-s in
    -- the point decided is that of the levels at s
    let near = rw (
      held (get_or c.args.i.now l.s (pos 0)) (search rules),
      held (get_or c.args.q.now l.s (pos 0)) (search rules),
    ) at c.nearest-point.ensures in
    let i = held _ c.level_i.type_inv ∙ c.level_i.ensures ∙ ap level_i near in
    let q = held _ c.level_q.type_inv ∙ c.level_q.ensures ∙ ap level_q near in (
      decided_more level_i _ _ _ l.oi l.s _ (omega arith) i l.invariant.0,
      decided_more level_q _ _ _ l.oq l.s _ (omega arith) q l.invariant.1,
    )

pub returns : goal.returns
returns g c =
    let l = c.loop-s in
    record {
      all_i = decided_all level_i _ _ _ l.oi l.s (omega arith) l.invariant.0;
      all_q = decided_all level_q _ _ _ l.oq l.s (omega arith) l.invariant.1;
    }
