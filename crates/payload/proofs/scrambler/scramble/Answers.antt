-- `payload::scrambler::scramble` meets its contract: turns of eight, and then of one.
-- Assumes nothing.
use Prim.Native.Nat.{◌+◌, ◌-◌, ◌*◌, ◌/◌}
use native.Mathlib.Omega.{arith}
use lib.ListN.{length}
use Rattle.payload.proofs.Turns.{turned_none, turned_at, eight_turned, one_turned, all_turned}
use Rattle.payload.proofs.scrambler.scramble.Goals as goal

pub loop-k-init : goal.loop-k-init
loop-k-init c = let a = c.args in turned_none a.bits.now a.register

pub loop-k-preserved : goal.loop-k-preserved
loop-k-preserved c =
    let l = c.loop-k in
    eight_turned l.invariant _ _ _ (8 * l.k + 8 - 8 * l.k) (8 * (l.k + 1)) (omega arith) (omega arith) (omega arith) c.add_eight.ensures c.form8.ensures
    c.shift8-after.ensures

pub loop-i-init : goal.loop-i-init
loop-i-init c = turned_at c.loop-k.invariant (8 * (length c.args.bits.now / 8)) (omega arith)

pub loop-i-preserved : goal.loop-i-preserved
loop-i-preserved c =
    let l = c.loop-i in
    one_turned l.invariant _ _ (omega arith) c.form.ensures.0 c.shift-after.ensures

pub returns : goal.returns
returns c = all_turned c.loop-i.invariant (omega arith)
