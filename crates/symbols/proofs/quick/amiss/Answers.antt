-- `symbols::quick::amiss` meets its contract: where x is 0, the points before s passed.
-- Assumes nothing.
use Prim.Native.Nat.{◌+◌}
use lib.IntN.{pos}
use lib.ListN.{get_or}
use mir.Syntax.{w16}
use mir.ValLaws.{to_z-of_z}
use Rattle.symbols.specs.Quick.{PassedBy}
use Rattle.symbols.proofs.Ors.{or_more, passed_as}
use Rattle.symbols.proofs.quick.amiss.Goals as goal

pub loop-s-preserved : goal.loop-s-preserved
loop-s-preserved c =
    let l = c.loop-s in
    let a = c.args in
    let size_i = rw (to_z-of_z w16 (get_or a.i.now l.s (pos 0)) (record { sfits = c.size-arg-1.given })) at c.size.ensures in
    let size_q = rw (to_z-of_z w16 (get_or a.q.now l.s (pos 0)) (record { sfits = c.size-arg-in-loop-s-1.given })) at c.size-in-loop-s.ensures in
    or_more (λ t. PassedBy a.scheme.entries.now (a.from + t) (get_or a.i.now t (pos 0)) (get_or a.q.now t (pos 0)))
    l.x c.wrong-x.result l.s l.invariant (λ e. passed_as c.bits.ensures size_i size_q (c.wrong-x.ensures e))
