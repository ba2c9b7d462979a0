-- `decoder::mending::single` meets its contract: the word with one place flipped differs from it in one place, so a codeword there is the answer.
-- Assumes nothing.
use Prim.Native.Nat.{◌-◌, ◌<◌}
use native.Mathlib.Omega.{arith}
use Rattle.decoder.proofs.Attempts.{settled_neighbour}
use Rattle.decoder.proofs.PackedWords.{clear_flipped, neighbour_flipped, written}
use Rattle.decoder.proofs.mending.single.Goals as goal

pub settle-requires : goal.settle-requires
settle-requires c =
    let place = c.args.c.n - 1 - c.in_ok-e.e in
    let inside : place < c.args.c.n = omega arith in
    (c.requires.0, clear_flipped c.requires.0.sound c.args.words c.requires.1 c.flipped.result place inside c.flipped.ensures)

pub returns : goal.returns
returns c =
    let place = c.args.c.n - 1 - c.in_ok-e.e in
    let inside : place < c.args.c.n = omega arith in
    let sound = c.requires.0.sound in
    let copy = c.flipped.result in
    let clear = clear_flipped sound c.args.words c.requires.1 copy place inside c.flipped.ensures in
    let near = neighbour_flipped sound c.args.words c.requires.1 copy place inside c.flipped.ensures in
    settled_neighbour c.args.c c.args.words copy near (written sound copy clear) (omega arith) c.settle.result (rw c.one.ensures at c.settle.ensures)
