-- `report::writer::with` meets its contract: the part behind what the text holds is as long as the bytes.
-- Assumes nothing.
use Prim.Native.Nat.{◌+◌, ◌-◌}
use native.Mathlib.Omega.{arith}
use lib.ListN.{length}
use Rattle.report.proofs.Texts.{count_room, length_room, text_grown}
use Rattle.report.proofs.writer.with.Goals as goal

pub overflow_add-end : goal.overflow_add-end
overflow_add-end c =
    omega (arith, count_room c.args.more.now c.args.text c.requires)

pub slice_bounds-bytes-end : goal.slice_bounds-bytes-end
slice_bounds-bytes-end c =
    omega (arith, count_room c.args.more.now c.args.text c.requires, length_room c.args.more.now c.args.text c.requires)

pub returns : goal.returns
returns c =
    let a = c.args in
    let more = a.more.now in
    text_grown more a.text c.requires (a.text.count + length more - a.text.count) _ (omega arith) c.copy_from_slice.ensures.after
