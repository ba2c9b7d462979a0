-- `decoder::locator::moved` meets its contract: the entries before i are those of the list with two 0s in front.
-- Assumes nothing.
use mathlib.Core.Path.{◌≡◌, sym, ◌∙◌}
use native.Mathlib.Omega.{arith}
use lib.ListN.{length-set}
use lib.Seq.{take_all}
use Rattle.decoder.proofs.Shifts.{moved_more}
use Rattle.decoder.proofs.locator.moved.Goals as goal

pub loop-i-preserved : goal.loop-i-preserved
loop-i-preserved c =
    let l = c.loop-i in
    (simp length-set l.invariant.0, moved_more c.args.p.now l.out l.i (omega arith) (omega arith) (omega arith) l.invariant.1)

pub returns : goal.returns
returns c =
    let l = c.loop-i in
    let e : l.i ≡ 34 = omega arith in
    sym (take_all 34 l.out (omega arith)) ∙ (rw e at l.invariant.1)
