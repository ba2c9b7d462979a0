-- `symbols::quick::beside` meets its contract: where x is 0, the sizes of the levels before s are 0 and 1.
-- Assumes nothing.
use mathlib.Core.Path.{sym, ap₂, ◌∙◌}
use Prim.Native.Nat.{ℕ, ◌+◌}
use lib.IntN.{pos}
use lib.ListN.{get_or}
use mir.Syntax.{w16}
use mir.ValLaws.{to_z-of_z}
use Rattle.symbols.specs.Quick.{Single}
use Rattle.symbols.proofs.Ors.{or_more}
use Rattle.symbols.proofs.quick.beside.Goals as goal

pub loop-s-preserved : goal.loop-s-preserved
loop-s-preserved c =
    let l = c.loop-s in
    let a = c.args in
    let size_i = rw (to_z-of_z w16 (get_or a.i.now l.s (pos 0)) (record { sfits = c.size-arg-1.given })) at c.size.ensures in
    let size_q = rw (to_z-of_z w16 (get_or a.q.now l.s (pos 0)) (record { sfits = c.size-arg-in-loop-s-1.given })) at c.size-in-loop-s.ensures in
    or_more (λ t. Single t (get_or a.i.now t (pos 0)) (get_or a.q.now t (pos 0))) l.x c.more_or_less-x.result l.s l.invariant
    (λ e. sym (ap₂ (λ (x y : ℕ). x + y) size_i size_q) ∙ c.more_or_less-x.ensures e)
