-- `packed::first` meets its contract: machine word after machine word.
-- Assumes nothing.
use mathlib.Core.Path.{refl}
use native.Mathlib.Omega.{arith}
use lib.ListN.{take}
use Rattle.packed.specs.Packed.{bits512, padded}
use Rattle.packed.proofs.Walks.{from_none}
use Rattle.packed.proofs.Paddings.{length_first, first_at}
use Rattle.packed.proofs.Stores.{stored_more, stored_all}
use Rattle.packed.proofs.first.Goals as goal

pub loop-w-init : goal.loop-w-init
loop-w-init c = (refl, from_none 0 _)

pub loop-w-preserved : goal.loop-w-preserved
loop-w-preserved c =
    let l = c.loop-w in
    let a = c.args in
    let ws = a.words.now in
    let here = first_at ws a.n l.w _ (omega arith) c.top.ensures in
    stored_more (padded (take a.n (bits512 ws))) l.out l.w _ (omega arith) here l.invariant

pub returns : goal.returns
returns c =
    let l = c.loop-w in
    let a = c.args in
    let ws = a.words.now in
    stored_all (padded (take a.n (bits512 ws))) l.out l.w (length_first ws a.n) (omega arith) l.invariant
