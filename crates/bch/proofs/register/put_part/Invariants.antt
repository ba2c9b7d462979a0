-- `bch::register::put_part` meets its contract: each turn writes one entry more.
-- Assumes nothing.
use mathlib.Core.Path.{◌≡◌}
use Prim.Native.Nat.{ℕ, ◌+◌, ◌*◌}
use lib.ListN.{length}
use Rattle.bch.specs.Registers.{Sixteens, EntriesTo}
use Rattle.bch.proofs.register.put_part.Given as goal

abbrev pub invariant-loop-i : goal.invariant-loop-i
invariant-loop-i l =
    (length l.out ≡ 192) × ((g j : ℕ) → l.from ≡ 16 * j → Sixteens g (4 * j) l.part → EntriesTo l.from g l.initial.out → EntriesTo (l.from + l.i) g l.out)
