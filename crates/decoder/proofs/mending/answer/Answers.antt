-- `decoder::mending::answer` meets its contract: a word of which nothing is left is a codeword.
-- Assumes nothing.
use mathlib.Core.Path.{sym, ◌∙◌}
use mathlib.Core.Logic.{inl}
use borrow.Author.Tests.{eqb-true}
use Rattle.bch.specs.Registers.{contents}
use Rattle.decoder.specs.Candidates.{word_of}
use Rattle.decoder.proofs.Leftovers.{codeword_of_zero}
use Rattle.decoder.proofs.Attempts.{clean}
use Rattle.decoder.proofs.PackedWords.{word_long, word_bits, written}
use Rattle.decoder.proofs.mending.answer.Goals as goal

pub returns-then-is_zero : goal.returns-then-is_zero
returns-then-is_zero c =
    let left = c.leftover-left in
    let sound = c.requires.0.sound in
    let words = c.args.words in
    let zero = sym left.ensures ∙ eqb-true (contents left.result) 0 (sym c.is_zero.ensures ∙ c.if-is_zero.true) in
    rw c.unchanged.ensures
    (inl (clean (codeword_of_zero sound (word_of c.args.c words) (word_bits sound words) (word_long sound words) zero)
    (written sound words c.requires.1)))
