-- `bch::register::Register::put` meets its contract: what is written so far, then the top of what is left of the register.
-- Assumes nothing.
use mathlib.Core.Path.{◌≡◌}
use mathlib.Core.List.{◌++◌}
use Prim.Native.Nat.{◌-◌}
use lib.ListN.{length, take}
use Rattle.bch.specs.Registers.{contents, tops}
use Rattle.bch.proofs.register.Register.put.Given as goal

abbrev pub invariant-loop-i : goal.invariant-loop-i
invariant-loop-i l =
    (length l.out ≡ length l.initial.out)
    × (take l.i l.out ++ tops (length l.initial.out - l.i) (contents l.rest) ≡ tops (length l.initial.out) (contents l.initial.rest))
