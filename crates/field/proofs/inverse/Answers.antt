-- `field::inverse` meets its contract: the logarithms of an element and its inverse add up to 511.
-- Assumes nothing.
use mathlib.Core.Path.{sym}
use Rattle.field.proofs.Constants.{powers_at}
use Rattle.field.proofs.Inverses.{inverse_none, inverse_some}
use Rattle.field.proofs.inverse.Goals as goal

pub returns-in-Some : goal.returns-in-Some
returns-in-Some c =
    let is = c.in-Some.ensures in
    rw (c.power_at.ensures, powers_at) (sym (inverse_some c.args.x c.in-Some.i is.0 is.1))

pub returns-in-None : goal.returns-in-None
returns-in-None c = sym (inverse_none c.args.x c.in-None.ensures)
