-- `report::report` meets its contract: the lines of the answer, letter for letter.
-- Assumes nothing.
use mathlib.Core.Path.{ap, ◌∙◌}
use Prim.Native.Nat.{ℕ}
use lib.ListN.{length}
use Rattle.report.specs.Lines.{lines_of, text_of}
use Rattle.report.specs.Made.{answer_lines, trip_of}
use Rattle.report.proofs.Outputs.{mode_known, lines_are, lines_short}
use Rattle.report.proofs.Texts.{counted_text}
use Rattle.report.proofs.report.Goals as goal

pub trip-requires : goal.trip-requires
trip-requires c = rw c.mode_for.ensures (mode_known (length c.args.frame.now))

pub returns : goal.returns
returns c =
    let n = length c.args.frame.now in
    let text = c.answered.ensures
    ∙ ap (λ a. text_of (answer_lines n a)) (c.from.ensures ∙ c.trip.ensures ∙ ap (λ (m : ℕ). trip_of m n) c.mode_for.ensures)
    ∙ ap text_of (lines_are n) in
    record { value = text; counted = rw text (counted_text (lines_of n) (lines_short n)) }
