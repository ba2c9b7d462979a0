-- `decoder::syndrome::take_all` meets its contract: what is left at the top is taken in after what the sums have taken.
-- Assumes nothing.
use mathlib.Core.Path.{◌≡◌}
use mathlib.Core.List.{List}
use Prim.Native.Nat.{ℕ, ◌-◌, ◌*◌}
use lib.ListN.{length}
use Rattle.bch.specs.Registers.{contents, tops}
use Rattle.decoder.specs.Syndromes.{Taken}
use Rattle.decoder.proofs.syndrome.take_all.Given as goal

abbrev pub invariant-loop : goal.invariant-loop
invariant-loop l =
    (length l.sums ≡ length l.initial.sums)
    × ((new : List ℕ) → Taken (tops (l.r - 8 * l.counter) (contents l.rest)) l.sums new → Taken (tops l.r (contents l.initial.rest)) l.initial.sums new)
