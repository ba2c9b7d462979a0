-- `symbols::scheme::bad_place` meets its contract: no entry before s is outside.
-- Assumes nothing.
use mathlib.Core.Path.{sym, ◌∙◌}
use native.Mathlib.Omega.{arith}
use Rattle.ground.proofs.Firsts.{first_here, first_later, first_end}
use Rattle.symbols.proofs.Faults.{place_of_long}
use Rattle.symbols.proofs.scheme.bad_place.Goals as goal

pub returns-then-is_outside : goal.returns-then-is_outside
returns-then-is_outside c =
    let l = c.loop-s in
    let entries = c.args.entries.now in
    first_here _ 0 entries l.s l.invariant (sym c.is_outside.ensures ∙ c.if-is_outside.true) ∙ place_of_long entries (omega arith)

pub loop-s-preserved : goal.loop-s-preserved
loop-s-preserved c =
    let l = c.loop-s in
    first_later _ 0 c.args.entries.now l.s l.invariant (omega arith) (sym c.is_outside.ensures ∙ c.if-is_outside.false)

pub returns : goal.returns
returns c =
    let entries = c.args.entries.now in
    first_end _ 0 entries 210 (omega (arith, c.loop-s.invariant)) (omega arith) ∙ place_of_long entries (omega arith)
