-- `packed::piece` meets its contract: 64 bits, none, or some.
-- Assumes nothing.
use mathlib.Core.Path.{refl}
use Prim.Native.Nat.{◌-◌}
use native.Mathlib.Omega.{arith}
use lib.ListN.{length}
use Rattle.packed.proofs.Runs.{piece_full, piece_none, piece_part}
use Rattle.packed.proofs.piece.Goals as goal

pub returns-then-i-word : goal.returns-then-i-word
returns-then-i-word c =
    let a = c.args in
    piece_full a.word.now a.i _ _ (omega arith) (omega arith) c.full.ensures

pub returns-then-word-i : goal.returns-then-word-i
returns-then-word-i c =
    let a = c.args in
    piece_none a.word.now a.i (omega arith)

pub returns : goal.returns
returns c =
    let a = c.args in
    piece_part a.word.now a.i (length a.word.now - a.i) _ refl (omega arith) (omega arith) c.part.ensures
