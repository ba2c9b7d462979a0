-- `decoder::mending::settle` meets its contract: what is left of a codeword is zero, and of nothing else.
-- Assumes nothing.
use mathlib.Core.Path.{refl, sym, ◌∙◌}
use borrow.Author.Tests.{eqb-true, eqb-false}
use Rattle.bch.specs.Registers.{contents}
use Rattle.decoder.specs.Candidates.{word_of}
use Rattle.decoder.proofs.Leftovers.{codeword_of_zero, zero_of_codeword}
use Rattle.decoder.proofs.PackedWords.{word_long, word_bits}
use Rattle.decoder.proofs.mending.settle.Goals as goal

pub returns-then-is_zero : goal.returns-then-is_zero
returns-then-is_zero c =
    let left = c.leftover in
    let sound = c.requires.0.sound in
    let copy = c.args.copy in
    let zero = sym left.ensures ∙ eqb-true (contents left.result) 0 (sym c.is_zero.ensures ∙ c.if-is_zero.true) in
    (codeword_of_zero sound (word_of c.args.c copy) (word_bits sound copy) (word_long sound copy) zero, refl)

pub returns : goal.returns
returns c =
    let left = c.leftover in
    let sound = c.requires.0.sound in
    let copy = c.args.copy in
    λ w. eqb-false (contents left.result) 0 (sym c.is_zero.ensures ∙ c.if-is_zero.false)
    (left.ensures ∙ zero_of_codeword sound (word_of c.args.c copy) (word_bits sound copy) (word_long sound copy) w)
