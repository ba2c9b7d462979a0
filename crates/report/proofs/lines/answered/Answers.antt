-- `report::lines::answered` meets its contract: the lines for what is told.
-- Assumes nothing.
use mathlib.Core.Path.{ap, ◌∙◌}
use Prim.Native.Nat.{ℕ}
use Rattle.report.specs.Lines.{text_of}
use Rattle.report.specs.Made.{refused_line}
use borrow.Author.Tests.{eq-eqb, ne_eqb}
use Rattle.report.proofs.lines.answered.Goals as goal

pub returns-then-told-eq0 : goal.returns-then-told-eq0
returns-then-told-eq0 c = rw (eq-eqb c.args.told.number 0 c.if-told-eq0.true) c.accepted.ensures

pub returns-else-told-eq0 : goal.returns-else-told-eq0
returns-else-told-eq0 c =
    rw (ne_eqb c.args.told.number 0 c.if-told-eq0.false)
    (c.refused.ensures ∙ ap (λ (n : ℕ). text_of (refused_line n c.args.told.place)) c.from.ensures)
