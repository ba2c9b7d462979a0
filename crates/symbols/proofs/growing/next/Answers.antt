-- `symbols::growing::next` meets its contract: the same machine word, or the digits for which it has no room.
-- Assumes nothing.
use native.Mathlib.Omega.{arith}
use Rattle.symbols.proofs.Joins.{digits_over}
use Rattle.symbols.proofs.growing.next.Goals as goal

pub returns-else-fill-n-lt64 : goal.returns-else-fill-n-lt64
returns-else-fill-n-lt64 c = (λ h. absurd (omega arith), λ _. digits_over c.args.fill c.args.label (omega arith))
