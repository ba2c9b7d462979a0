-- `packed::pack` meets its contract: machine word after machine word.
-- Assumes nothing.
use lib.ListN.{take}
use Rattle.bits.specs.Words.{lowest}
use Rattle.packed.specs.Packed.{padded}
use Rattle.packed.proofs.Stores.{Stored}
use Rattle.packed.proofs.pack.Given as goal

abbrev pub invariant-loop-w : goal.invariant-loop-w
invariant-loop-w l = Stored (padded (take 512 (lowest l.word))) l.out l.w
