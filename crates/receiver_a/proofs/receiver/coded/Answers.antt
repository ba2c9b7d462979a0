-- `receiver_a::receiver::coded` meets its contract: a codeword for each row, and the frame of their information.
-- Assumes nothing.
use mathlib.Core.Path.{ap₂, ◌∙◌}
use Prim.Native.Nat.{◌+◌, max}
use native.Mathlib.Omega.{arith}
use lib.Seq.{length-take-le}
use Rattle.std.proofs.lemmas.Result.{err_from_is_err_and}
use Rattle.receiver_a.proofs.Settling.{both_long, both_bits, first_hopeless, second_hopeless, informing, coded_right, coded_wrong}
use Rattle.receiver_a.proofs.receiver.coded.Goals as goal

pub returns-in_err-in_first : goal.returns-in_err-in_first
returns-in_err-in_first c =
    let p = err_from_is_err_and c.from_residual.result c.from_residual.ensures.1 in
    let none = rw c.in_err-in_first.was at c.mend.ensures in
    rw (p.1, p.2, none.0) (first_hopeless c.requires.0 c.args.area.now c.args.differing none.1)

pub returns-in_err-in_second : goal.returns-in_err-in_second
returns-in_err-in_second c =
    let e = c.from_residual-in_err-in_second in
    let p = err_from_is_err_and e.result e.ensures.1 in
    let first = rw c.in_ok-in_first.was at c.mend.ensures in
    let none = rw c.in_err-in_second.was at c.mend-2.ensures in
    rw (p.1, p.2, none.0) (second_hopeless c.requires.0 c.args.area.now c.args.differing first.0 none.1)

pub deliver-requires : goal.deliver-requires
deliver-requires c =
    let first = rw c.in_ok-in_first.was at c.mend.ensures in
    let second = rw c.in_ok-in_second.was at c.mend-2.ensures in
    let both = informing c.requires.0 c.args.area.now 0 first.0 second.0 in
    let l = length-take-le 58 c.args.area.now c.requires.1 in
    rw c.joined-bits.ensures (both_bits both, both_long both ∙ omega arith)

pub returns-in_err-deliver : goal.returns-in_err-deliver
returns-in_err-deliver c =
    let e = c.from_residual-in_err-deliver in
    let p = err_from_is_err_and e.result e.ensures.1 in
    let first = rw c.in_ok-in_first.was at c.mend.ensures in
    let second = rw c.in_ok-in_second.was at c.mend-2.ensures in
    rw (p.1, p.2) (coded_wrong c.requires.0 c.args.area.now c.args.differing first.0 second.0 c.deliver.new.area c.requires.1
    (rw (c.joined-bits.ensures, c.in_err-deliver.was) at c.deliver.ensures))

pub returns : goal.returns
returns c =
    let first = rw c.in_ok-in_first.was at c.mend.ensures in
    let second = rw c.in_ok-in_second.was at c.mend-2.ensures in
    coded_right c.requires.0 c.args.area.now c.args.differing first.0 second.0 c.deliver.new.area c.requires.1 _ _ _ _
    (ap₂ ◌+◌ first.1 second.1) (c.max.ensures ∙ ap₂ max first.1 second.1) first.2 second.2
    (rw (c.joined-bits.ensures, c.in_ok-deliver.was) at c.deliver.ensures)
