-- `decoder::elements::answer` meets its contract: the codeword that is found of the packed word is the word with the places flipped that are listed.
-- Assumes nothing.
use mathlib.Core.Logic.{inl}
use native.Mathlib.Omega.{arith}
use Rattle.decoder.proofs.Entries.{elements_clear, elements_answered, elements_refused, few_listed, all_listed, listed_inside, mended_written}
use Rattle.decoder.proofs.elements.answer.Goals as goal

pub answer-mended-requires : goal.answer-mended-requires
answer-mended-requires c = (c.requires.1, elements_clear c.requires.0 c.pack.result c.pack.ensures)

pub write-requires : goal.write-requires
write-requires c =
    let fit = c.requires.0 in
    let mended = c.answer-mended in
    let listed = elements_answered fit c.pack.result c.pack.ensures mended.result mended.ensures _ c.in-Ok.is in
    record {
      bits = (fit.bits, omega (arith, fit.long, fit.room), few_listed listed fit.sound.few);
      count_in_bounds = (all_listed listed, listed_inside listed);
    }

pub returns-in-Ok : goal.returns-in-Ok
returns-in-Ok c =
    let fit = c.requires.0 in
    let mended = c.answer-mended in
    let listed = elements_answered fit c.pack.result c.pack.ensures mended.result mended.ensures _ c.in-Ok.is in
    inl (mended_written listed fit.long _ c.write.ensures)

pub returns-in-Err : goal.returns-in-Err
returns-in-Err c =
    let mended = c.answer-mended in
    elements_refused c.requires.0 c.pack.result c.pack.ensures mended.result mended.ensures _ c.in-Err.is
