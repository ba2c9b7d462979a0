-- `remainders::Seen::some_bytes` meets its contract: what is left of the zeros is taken in after what the register has taken.
-- Assumes nothing.
use mathlib.Core.Path.{◌≡◌}
use Prim.Native.Nat.{◌-◌, ◌*◌}
use Rattle.bch.specs.Registers.{contents}
use Rattle.remainders.specs.Seen.{seen}
use Rattle.remainders.specs.Taking.{turns_by}
use Rattle.remainders.proofs.Seen.some_bytes.Given as goal

abbrev pub invariant-loop : goal.invariant-loop
invariant-loop l = turns_by (seen l.self) (l.n - 2 * l.counter) (contents l.s) ≡ turns_by (seen l.self) l.n (contents l.initial.s)
