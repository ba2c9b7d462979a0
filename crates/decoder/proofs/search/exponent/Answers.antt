-- `decoder::search::exponent` meets its contract: the logarithm, but 511 for 1, and 0 for 0, which has none.
-- Assumes nothing.
use mathlib.Core.Path.{◌≡◌}
use native.Mathlib.Omega.{arith}
use Rattle.decoder.proofs.Marking.{exponent_first, exponent_some}
use Rattle.decoder.proofs.search.exponent.Goals as goal

pub returns-in-Some-eq0 : goal.returns-in-Some-eq0
returns-in-Some-eq0 c =
    let zero : c.in-Some-eq0.field-0 ≡ 0 = omega arith in
    exponent_first c.args.v c.requires (rw zero at c.in-Some-eq0.ensures.1)

pub returns-in-Some : goal.returns-in-Some
returns-in-Some c = let is = c.in-Some.ensures in exponent_some c.args.v c.requires c.in-Some.e (omega arith) is.0 is.1
