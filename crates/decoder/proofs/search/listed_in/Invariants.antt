-- `decoder::search::listed_in` meets its contract: with what is left of x still to be listed, all of x is.
-- Assumes nothing.
use mathlib.Core.Path.{◌≡◌}
use Prim.Native.Nat.{◌+◌, ◌^◌, ◌<◌, ◌≤◌}
use lib.ListN.{length}
use Rattle.bits.specs.Words.{digits}
use Rattle.decoder.specs.Marks.{ones_from, all_more}
use Rattle.decoder.proofs.search.listed_in.Given as goal

abbrev pub invariant-loop-rest : goal.invariant-loop-rest
invariant-loop-rest l =
    (l.rest < 2 ^ 64) × (l.count + length (ones_from l.from (digits 64 l.rest)) ≤ 512)
    × (all_more (record { count = l.count; places = l.places }) (ones_from l.from (digits 64 l.rest)) ≡ all_more (record { count = l.before; places = l.initial.places }) (ones_from l.from (digits 64 l.x)))

abbrev pub decreases-loop-rest : goal.decreases-loop-rest
decreases-loop-rest l = l.rest
