-- `symbols::quick::any` meets its contract: where x is 0, so are the levels before k.
-- Assumes nothing.
use mathlib.Core.Path.{◌≡◌, sym, ◌∙◌}
use lib.IntN.{pos}
use lib.ListN.{get_or}
use mir.Syntax.{w16}
use mir.ValLaws.{to_z-of_z}
use Rattle.symbols.proofs.Ors.{or_more, size_zero}
use Rattle.symbols.proofs.quick.any.Goals as goal

pub loop-k-preserved : goal.loop-k-preserved
loop-k-preserved c =
    let l = c.loop-k in
    let levels = c.args.levels.now in
    let seen = rw (to_z-of_z w16 (get_or levels l.k (pos 0)) (record { sfits = c.size-arg-1.given })) at c.size-x.ensures in
    or_more (λ j. get_or levels j (pos 0) ≡ pos 0) l.x c.size-x.result l.k l.invariant (λ e. size_zero _ (sym seen ∙ e))
