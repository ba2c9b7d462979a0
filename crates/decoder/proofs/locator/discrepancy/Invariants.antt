-- `decoder::locator::discrepancy` meets its contract: d is the sum of the terms before j, and the terms behind len are zero.
-- Assumes nothing.
use Rattle.decoder.proofs.Coefficients.{Summed}
use Rattle.decoder.proofs.locator.discrepancy.Given as goal

abbrev pub invariant-loop-j : goal.invariant-loop-j
invariant-loop-j l = Summed l.state.locator l.s l.r l.j l.d
