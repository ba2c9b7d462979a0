-- `packed::across` meets its contract: a shift up, and behind it the digits that a shift down leaves of the other machine word.
-- Assumes nothing.
use Prim.Native.Nat.{◌%◌}
use native.Mathlib.Omega.{arith}
use Rattle.packed.proofs.Windows.{across_some}
use Rattle.packed.proofs.across.Goals as goal

pub returns-else-k-eq0 : goal.returns-else-k-eq0
returns-else-k-eq0 c =
    let a = c.args in
    across_some a.high a.low (a.p % 64) (omega arith) (omega arith)
