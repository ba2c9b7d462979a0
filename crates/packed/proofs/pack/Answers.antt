-- `packed::pack` meets its contract: machine word after machine word.
-- Assumes nothing.
use mathlib.Core.Path.{refl}
use native.Mathlib.Omega.{arith}
use lib.ListN.{length, take}
use Rattle.bits.specs.Words.{lowest}
use Rattle.bits.proofs.Digits.{length-lowest}
use Rattle.packed.specs.Packed.{padded}
use Rattle.packed.proofs.Walks.{from_none}
use Rattle.packed.proofs.Paddings.{length_512_first, piece_at}
use Rattle.packed.proofs.Stores.{stored_more, stored_all}
use Rattle.packed.proofs.pack.Goals as goal

pub loop-w-init : goal.loop-w-init
loop-w-init c = (refl, from_none 0 _)

pub loop-w-preserved : goal.loop-w-preserved
loop-w-preserved c =
    let l = c.loop-w in
    let word = c.args.word.now in
    let here = piece_at (lowest word) (length word) l.w _ (length-lowest word) (omega arith) c.piece.ensures in
    stored_more (padded (take 512 (lowest word))) l.out l.w _ (omega arith) here l.invariant

pub returns : goal.returns
returns c =
    let l = c.loop-w in
    let word = c.args.word.now in
    stored_all (padded (take 512 (lowest word))) l.out l.w (length_512_first (lowest word)) (omega arith) l.invariant
