-- `report::lines::accepted` meets its contract: each word and each number stands behind those before it.
-- Assumes nothing.
use mathlib.Core.List.{[]}
use native.Mathlib.Omega.{arith}
use lib.ListN.{length-append}
use Rattle.report.specs.Lines.{ascii}
use Rattle.report.specs.Made.{accepted_lines}
use Rattle.report.proofs.Decimals.{length-decimal}
use Rattle.report.proofs.Texts.{room_behind}
use Rattle.report.proofs.lines.accepted.Goals as goal

pub with_number-t-requires-2 : goal.with_number-t-requires-2
unfolding ascii
with_number-t-requires-2 c =
    let bytes = c.with_number-t.ensures [] c.empty.ensures in
    room_behind _ _ _ bytes (simp length-append (omega (arith, length-decimal c.args.bytes)))

pub with_number-t-requires-3 : goal.with_number-t-requires-3
unfolding ascii
with_number-t-requires-3 c =
    let a = c.args in
    let mended = c.with_number-t-2.ensures _ (c.with_number-t.ensures [] c.empty.ensures) in
    room_behind _ _ _ mended (simp length-append (omega (arith, length-decimal a.bytes, length-decimal a.mended)))

pub with-requires : goal.with-requires
unfolding ascii
with-requires c =
    let a = c.args in
    let differing = c.with_number-t-3.ensures _ (c.with_number-t-2.ensures _ (c.with_number-t.ensures [] c.empty.ensures)) in
    room_behind _ _ _ differing (simp length-append (omega (arith, length-decimal a.bytes, length-decimal a.mended, length-decimal a.differing)))

pub returns : goal.returns
unfolding ascii accepted_lines
returns c = c.with.ensures _ (c.with_number-t-3.ensures _ (c.with_number-t-2.ensures _ (c.with_number-t.ensures [] c.empty.ensures)))
