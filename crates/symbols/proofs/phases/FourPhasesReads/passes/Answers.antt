-- `symbols::phases::FourPhases` passes the points that have the sizes of those of DQPSK.
-- Assumes nothing.
use native.Mathlib.Omega.{arith}
use borrow.Author.Tests.{eqb-true}
use Rattle.points.proofs.Turns.{single_legal}
use Rattle.symbols.proofs.phases.FourPhasesReads.passes.Goals as goal

pub returns : goal.returns
returns c = λ e s h. single_legal _ _ (c.beside.ensures (eqb-true _ 0 e) s (omega (arith, c.requires.1)))
