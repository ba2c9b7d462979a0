-- `payload::scrambler::form64` meets its contract: each run of formed bits stands behind those before it.
-- Assumes nothing.
use lib.Dec.{lit≤}
use Rattle.payload.proofs.Forming.{more_formed, register_behind}
use Rattle.payload.proofs.scrambler.form64.Goals as goal

pub returns : goal.returns
returns c =
    let r = c.args.register in
    let after14 = c.shift14-r1.ensures in
    let after28 = register_behind 14 14 r _ _ after14 c.shift14-r2.ensures in
    let after42 = register_behind 28 14 r _ _ after28 c.shift14-r3.ensures in
    let after56 = register_behind 42 14 r _ _ after42 c.shift14-r4.ensures in
    let k14 = c.form14.ensures in
    let k28 = c.form14-2.ensures in
    let k42 = c.form14-3.ensures in
    let k56 = c.form14-4.ensures in
    let k64 = c.form8 in
    let first28 = more_formed 14 14 _ _ r _ (lit≤ tt) k28.1 k14.0 after14 k28.0 in
    let first42 = more_formed 28 14 _ _ r _ (lit≤ tt) k42.1 first28 after28 k42.0 in
    let first56 = more_formed 42 14 _ _ r _ (lit≤ tt) k56.1 first42 after42 k56.0 in
    more_formed 56 8 _ k64.result r _ (lit≤ tt) k64.type_inv first56 after56 k64.ensures
