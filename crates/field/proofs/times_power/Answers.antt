-- `field::times_power` meets its contract: our tables give the product with a power.
-- Assumes nothing.
use native.Mathlib.Omega.{arith}
use Rattle.field.proofs.Constants.{logarithms_are, powers_at}
use Rattle.field.proofs.Logarithms.{log, times_power_lem}
use Rattle.field.proofs.times_power.Goals as goal

pub returns : goal.returns
unfolding log
returns c =
    rw (c.power_at.ensures, c.log_at.ensures.0, c.from.ensures, powers_at, logarithms_are) (times_power_lem c.args.x c.args.e (omega arith))
