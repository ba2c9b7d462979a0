-- `symbols::growing::high` meets its contract: a shift up.
-- Assumes nothing.
use mathlib.Core.Path.{ap, ◌∙◌}
use mathlib.Core.List.{◌++◌}
use Prim.Native.Nat.{◌-◌}
use native.Mathlib.Omega.{arith}
use lib.ListN.{replicate}
use Rattle.bits.specs.Words.{digits}
use Rattle.bits.proofs.Shifts.{digits_shl}
use Rattle.symbols.proofs.growing.high.Goals as goal

pub returns : goal.returns
returns c =
    let a = c.args in
    digits_shl a.n (64 - a.n) c.from.result (omega arith) ∙ ap (λ label. digits a.n label ++ replicate (64 - a.n) 0) c.from.ensures
