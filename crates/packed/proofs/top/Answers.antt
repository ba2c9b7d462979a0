-- `packed::top` meets its contract: all digits stay, none, or those that are left after a shift down and up.
-- Assumes nothing.
use Prim.Native.Nat.{◌-◌}
use native.Mathlib.Omega.{arith}
use Rattle.packed.proofs.Paddings.{cut_all, cut_none, cut_some}
use Rattle.packed.proofs.top.Goals as goal

pub returns-then-from-n : goal.returns-then-from-n
returns-then-from-n c = let a = c.args in cut_all a.x (a.n - a.from) (omega arith)

pub returns-then-n-from : goal.returns-then-n-from
returns-then-n-from c = let a = c.args in cut_none a.x (a.n - a.from) (omega arith)

pub returns : goal.returns
returns c = let a = c.args in cut_some a.x (a.n - a.from) (omega arith)
