-- `roots::told` meets its contract: the machine words below w are told.
-- Assumes nothing.
use Rattle.roots.proofs.Rows.{Seen}
use Rattle.roots.proofs.told.Given as goal

abbrev pub invariant-loop-w : goal.invariant-loop-w
invariant-loop-w l = Seen l.sums l.z l.w
