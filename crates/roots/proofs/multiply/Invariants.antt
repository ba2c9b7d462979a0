-- `roots::multiply` meets its contract: the rows below w are done.
-- Assumes nothing.
use Rattle.roots.specs.Searches.{times_cube}
use Rattle.roots.proofs.Rows.{Upto}
use Rattle.roots.proofs.multiply.Given as goal

abbrev pub invariant-loop-w : goal.invariant-loop-w
invariant-loop-w l = Upto (times_cube l.initial.sums) l.initial.sums l.sums l.w
