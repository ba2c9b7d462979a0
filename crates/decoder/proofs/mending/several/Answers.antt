-- `decoder::mending::several` meets its contract: where a codeword lies within t, the locator's places lead to it, and a copy that is one is the answer.
-- Assumes nothing.
use native.Mathlib.Omega.{arith}
use Rattle.bch.specs.Held.{code_of}
use Rattle.bch.proofs.Tops.{tops_bits}
use Rattle.decoder.specs.Candidates.{word_of, Candidate}
use Rattle.decoder.proofs.Attempts.{none_near, candidate, settled}
use Rattle.decoder.proofs.PackedWords.{word_long, word_bits, written}
use Rattle.decoder.proofs.Recurrences.{squared_syndromes, found_all}
use Rattle.decoder.proofs.mending.several.Goals as goal

pub shortest-found-requires : goal.shortest-found-requires
shortest-found-requires c = (c.requires.ready.0.sound.few, squared_syndromes _ _ _ (tops_bits _ _) c.requires.known)

pub returns-then-c-found : goal.returns-then-c-found
returns-then-c-found c =
    let sound = c.requires.ready.0.sound in
    let words = c.args.words in
    none_near sound (word_of c.args.c words) (word_bits sound words) (word_long sound words) c.args.s.now
    c.requires.known c.shortest-found.result.locator (found_all c.shortest-found.ensures) c.if-c-found.true

pub flip-flipped-requires : goal.flip-flipped-requires
unfolding word_of
flip-flipped-requires c =
    let sound = c.requires.ready.0.sound in (
      omega (arith, sound.few, c.if-c-found.false),
      c.shortest-found.ensures.found.found.current.degree,
      omega (arith, sound.short),
      c.requires.ready.1,
    )

pub settle-requires : goal.settle-requires
unfolding word_of
settle-requires c = (c.requires.ready.0, c.flip-flipped.ensures.1)

-- what was flipped is the only candidate
pub returns : goal.returns
unfolding word_of
returns c =
    let sound = c.requires.ready.0.sound in
    let words = c.args.words in
    let flipped = c.flip-flipped in
    let only : Candidate (code_of c.args.c) (word_of c.args.c words) (word_of c.args.c flipped.result.copy) flipped.result.flips
    = candidate sound (word_of c.args.c words) (word_bits sound words) (word_long sound words) c.args.s.now c.requires.known
    c.shortest-found.result.locator (found_all c.shortest-found.ensures) c.if-c-found.false flipped.ensures.0 in
    settled c.args.c words flipped.result.copy only (written sound flipped.result.copy flipped.ensures.1) c.settle.result c.settle.ensures
