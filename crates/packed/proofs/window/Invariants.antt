-- `packed::window` meets its contract: machine word after machine word, each across two of those that are read.
-- Assumes nothing.
use Rattle.packed.proofs.Windows.{window_of}
use Rattle.packed.proofs.Stores.{Stored}
use Rattle.packed.proofs.window.Given as goal

abbrev pub invariant-loop-w : goal.invariant-loop-w
invariant-loop-w l = Stored (window_of l.words l.at) l.out l.w
