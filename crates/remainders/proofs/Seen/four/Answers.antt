-- `remainders::Seen::four` meets its contract: the machine words w are read, or left out.
-- Assumes nothing.
use native.Mathlib.Omega.{arith}
use Rattle.remainders.specs.Taking.{four_by}
use Rattle.remainders.proofs.Narrow.{four_read, four_out}
use Rattle.remainders.proofs.Seen.four.Goals as goal

pub returns-then-self-w : goal.returns-then-self-w
returns-then-self-w c =
    let a = c.args in
    four_out a.self.now.table.now a.self.now.below a.w a.z (omega arith) c.if-self-w.true

pub returns : goal.returns
unfolding four_by
returns c =
    let a = c.args in
    let w = c.well_formed in
    four_read a.self.now.table.now a.self.now.below a.w a.z (omega arith) (omega arith)
    (record { first = omega arith; second = omega arith; third = omega arith; fourth = omega arith })
