-- `report::lines::refused` meets its contract: each word and each number stands behind those before it.
-- Assumes nothing.
use mathlib.Core.List.{[]}
use native.Mathlib.Omega.{arith}
use lib.ListN.{length-append}
use Rattle.report.specs.Lines.{ascii}
use Rattle.report.specs.Made.{refused_line}
use Rattle.report.proofs.Decimals.{length-decimal}
use Rattle.report.proofs.Texts.{room_behind}
use Rattle.report.proofs.lines.refused.Goals as goal

pub with_number-t-requires-2 : goal.with_number-t-requires-2
unfolding ascii
with_number-t-requires-2 c =
    let number = c.with_number-t.ensures [] c.empty.ensures in
    room_behind _ _ _ number (simp length-append (omega (arith, length-decimal c.args.number)))

pub with-requires : goal.with-requires
unfolding ascii
with-requires c =
    let a = c.args in
    let place = c.with_number-t-2.ensures _ (c.with_number-t.ensures [] c.empty.ensures) in
    room_behind _ _ _ place (simp length-append (omega (arith, length-decimal a.number, length-decimal a.place)))

pub returns : goal.returns
unfolding ascii refused_line
returns c = c.with.ensures _ (c.with_number-t-2.ensures _ (c.with_number-t.ensures [] c.empty.ensures))
