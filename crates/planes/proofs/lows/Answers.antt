-- `planes::lows` meets its contract: bit l of the k-th machine word is digit k of l.
-- Assumes nothing.
use Rattle.planes.proofs.Quadratics.{lows_law}
use Rattle.planes.proofs.lows.Goals as goal

pub returns : goal.returns
returns c =
    lows_law _ _ _ _ _ _ _
    c.digit-t1.ensures
    c.digit-t2.ensures
    c.digit-t3.ensures
    c.digit-t4.ensures
    c.digit-t5.ensures
    c.digit.ensures
