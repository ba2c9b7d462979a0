-- `field::power` meets its contract: the powers begin again at 511.
-- Assumes nothing.
use mathlib.Core.Path.{◌≡◌, ◌∙◌}
use Prim.Native.Nat.{◌%◌, ◌<◌, min}
use native.Mathlib.Omega.{arith}
use Rattle.field.proofs.Constants.{powers_at}
use Rattle.field.proofs.Powers.{power-mod, power_table_at}
use Rattle.field.proofs.power.Goals as goal

pub returns : goal.returns
returns c =
    let i = c.args.i in
    let low : i % 511 < 511 = omega arith in
    let e : min (i % 511) 1021 ≡ i % 511 = omega arith in
    rw (c.power_at.ensures, powers_at, e) (power_table_at (i % 511) (omega arith) ∙ power-mod i)
