-- `packed::put` meets its contract: machine word after machine word, and what is left of the run behind the last.
-- Assumes nothing.
use Prim.Native.Nat.{◌≤◌}
use mathlib.Core.Path.{refl}
use native.Mathlib.Omega.{arith}
use borrow.Author.Tests.{le-leb, lt-leb}
use Rattle.packed.proofs.Places.{putting_none, putting_more, put_whole, put_within}
use Rattle.packed.proofs.put.Goals as goal

pub returns-then-at-gt2112 : goal.returns-then-at-gt2112
returns-then-at-gt2112 c = let at = c.args.at in rw (lt-leb at 2112 c.if-at-gt2112.true)

pub loop-w-init : goal.loop-w-init
loop-w-init c =
    let a = c.args in
    putting_none a.run a.bits a.at c.if-at-gt2112.false _ _ (omega arith) (omega arith) c.above-before.ensures

pub loop-w-preserved : goal.loop-w-preserved
loop-w-preserved c =
    let l = c.loop-w in
    let a = c.args in
    putting_more a.run a.bits a.at c.if-at-gt2112.false _ l.w _ l.invariant refl (omega arith) (omega arith) c.below.ensures

pub returns-then-p-ne0 : goal.returns-then-p-ne0
returns-then-p-ne0 c =
    let l = c.loop-w in
    let a = c.args in
    let room : a.at ≤ 2112 = omega arith in
    rw (le-leb a.at 2112 room)
    (put_within a.run a.bits a.at room _ _ l.invariant (omega arith) refl c.if-p-ne0.true c.below-then-p-ne0.ensures)

pub returns-else-p-ne0 : goal.returns-else-p-ne0
returns-else-p-ne0 c =
    let l = c.loop-w in
    let a = c.args in
    let room : a.at ≤ 2112 = omega arith in
    rw (le-leb a.at 2112 room) (put_whole a.run a.bits a.at room l.invariant (omega arith) (omega arith))
