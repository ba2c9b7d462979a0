-- `symbols::phases::write` meets its contract: the points stand on the sub-carriers, if the bits and the lists allow it.
-- Assumes nothing.
use mathlib.Core.Path.{refl, sym, ◌∙◌}
use native.Mathlib.Omega.{arith}
use lib.ListN.{length, take}
use lib.Seq.{length-take-le}
use borrow.Author.Tests.{eq-eqb}
use Rattle.symbols.proofs.Placings.{levels_there}
use Rattle.symbols.proofs.Rooms.{room_both}
use Rattle.symbols.proofs.phases.write.Goals as goal

pub returns : goal.returns
returns c =
    let i = c.args.i.now in
    let q = c.args.q.now in
    let made = c.turn_bits-turned in
    let room = sym c.if-not-room.false ∙ c.room.ensures in
    let rooms = room_both 256 i q room in
    let is = levels_there made.result.is (take 256 i) c.put_levels.ensures (length-take-le 256 i rooms.0) in
    let qs = levels_there made.result.qs (take 256 q) c.put_levels-2.ensures (length-take-le 256 q rooms.1) in
    rw (eq-eqb (length c.args.bits.now) 420 (omega arith), sym room, is, qs, made.ensures) (refl, refl, refl)
