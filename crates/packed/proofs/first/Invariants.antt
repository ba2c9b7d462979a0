-- `packed::first` meets its contract: machine word after machine word.
-- Assumes nothing.
use lib.ListN.{take}
use Rattle.packed.specs.Packed.{bits512, padded}
use Rattle.packed.proofs.Stores.{Stored}
use Rattle.packed.proofs.first.Given as goal

abbrev pub invariant-loop-w : goal.invariant-loop-w
invariant-loop-w l = Stored (padded (take l.n (bits512 l.words))) l.out l.w
