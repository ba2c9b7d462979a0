-- `decoder::mending::tests::of_any` meets its contract: the table that is made is one of the code's remainders.
-- Assumes nothing.
use Prim.Native.Nat.{ℕ}
use lib.ListN.{get_or}
use mir.Syntax.{w64}
use mir.Val.{Fits}
use borrow.Author.Rules.{rules}
use Rattle.decoder.proofs.Lent.{ready_lent}
use Rattle.decoder.proofs.mending.tests.of_any.Goals as goal

pub answer-requires : goal.answer-requires
answer-requires c =
    let fit : (j : ℕ) → Fits w64 (get_or c.table.result j 0) = λ j. search rules in
    (ready_lent c.requires.0 c.table.result (λ j. (fit j).fits) c.table.ensures, c.requires.1)
