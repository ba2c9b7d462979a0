-- `field::logarithm` meets its contract: every entry below 511 is a logarithm, and only that of 0 is above.
-- Assumes nothing.
use Prim.Native.Nat.{◌%◌}
use native.Mathlib.Nat.{mod-lt}
use lib.Dec.{lit<}
use Rattle.field.proofs.Constants.{logarithms_are}
use Rattle.field.proofs.Logarithms.{log, log_none, log_some}
use Rattle.field.proofs.logarithm.Goals as goal

pub returns-then-i-lt511 : goal.returns-then-i-lt511
unfolding log
returns-then-i-lt511 c =
    let low = c.if-i-lt511.true in
    let e = rw logarithms_are at c.log_at-i.ensures.0 in
    (low, rw e (log_some (c.args.x % 512) (mod-lt c.args.x (lit< tt)) (rw e at low)))

pub returns-else-i-lt511 : goal.returns-else-i-lt511
unfolding log
returns-else-i-lt511 c =
    log_none (c.args.x % 512) (mod-lt c.args.x (lit< tt)) (rw (rw logarithms_are at c.log_at-i.ensures.0) at c.if-i-lt511.false)
