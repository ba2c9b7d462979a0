-- `sender_b::send_b` meets its contract: checks 1, 2, 5, 6 and 3 in document 01's order.
-- Assumes nothing.
use mathlib.Core.Path.{sym, ◌∙◌}
use Rattle.symbols.proofs.Rooms.{room_both}
use Rattle.payload_b.proofs.Plans.{plan_mode}
use Rattle.sender_b.proofs.send_b.Goals as goal

pub send-requires : goal.send-requires
send-requires c =
    let told = c.in_ok-checked.ensures.0 in
    let asked = rw told.1 at c.room.ensures in
    rw (plan_mode told.0 told.1, c.in_ok-checked.ensures.1)
    (record { sendable = told.0; planned = told.1; room = room_both _ c.args.i.now c.args.q.now (sym c.if-not-room.false ∙ asked) })
