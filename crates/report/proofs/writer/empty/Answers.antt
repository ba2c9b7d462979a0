-- `report::writer::empty` meets its contract: 128 zeros, none of them counted.
-- Assumes nothing.
use Rattle.report.specs.Lines.{text_of}
use borrow.Author.Rules.{rules}
use Rattle.report.proofs.writer.empty.Goals as goal

pub returns : goal.returns
unfolding text_of
returns c = search rules
