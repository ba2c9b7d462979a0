-- `receiver_b::step::take` meets its contract: what is taken in is what the step promises.
-- Assumes nothing.
use mathlib.Core.Path.{◌≡◌}
use native.Mathlib.Omega.{arith}
use lib.ListN.{length, get_or}
use mir.Syntax.{w64}
use mir.Val.{Fits}
use Rattle.packed.proofs.Once.{Wide}
use Rattle.receiver_b.proofs.Stepping.{ready, as_stated, step_goes, step_halts}
use borrow.Author.Rules.{rules}
use Rattle.receiver_b.proofs.step.take.Goals as goal

pub take_symbol-requires : goal.take_symbol-requires
take_symbol-requires c = ready c.requires

pub stop-requires : goal.stop-requires
stop-requires c =
    let stuck = rw c.in-Err.is at (as_stated c.requires _ c.take_symbol.result c.take_symbol.ensures) in
    omega (arith, c.requires.next.room, stuck.long)

pub returns-in-Err : goal.returns-in-Err
returns-in-Err c =
    let stuck = rw c.in-Err.is at (as_stated c.requires _ c.take_symbol.result c.take_symbol.ensures) in
    rw (c.stop.ensures.0, c.stop.ensures.1, c.stop.ensures.2) (step_halts c.requires stuck)

pub returns-in-Ok : goal.returns-in-Ok
returns-in-Ok c =
    let e = c.in-Ok.end in
    let on = rw c.in-Ok.is at (as_stated c.requires _ c.take_symbol.result c.take_symbol.ensures) in
    let wide : Wide e.block = λ i. let one : Fits w64 (get_or e.block i 0) = search rules in one.fits in
    let long : length e.block ≡ 8 = search rules in
    step_goes c.requires e.block on long wide
