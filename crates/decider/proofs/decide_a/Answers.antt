-- `decider::decide_a` meets its contract: check 3 asks for the room of two OFDM symbols.
-- Assumes nothing.
use mathlib.Core.Path.{◌≡◌, refl, sym, ◌∙◌}
use mathlib.Core.Bool.{false, ◌&&◌}
use Prim.Native.Nat.{◌≤◌}
use native.Mathlib.Omega.{arith}
use borrow.Author.Tests.{le-leb}
use Rattle.symbols.specs.Grids.{room}
use Rattle.payload_a.proofs.Known.{known}
use Rattle.decider.proofs.decide_a.Goals as goal

pub returns-then-not-has_room : goal.returns-then-not-has_room
returns-then-not-has_room c =
    let a = c.args in
    let mode : a.mode ≤ 1 = omega (arith, known c.in_ok-try_from.field-0, c.in_ok-try_from.ensures) in
    let none : (room 512 a.i.now a.q.now && room 512 a.oi.now a.oq.now) ≡ false = sym c.has_room.ensures ∙ c.if-not-has_room.true in
    rw (le-leb a.mode 1 mode, none) (refl, refl, refl)
