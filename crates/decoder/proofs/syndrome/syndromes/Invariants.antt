-- `decoder::syndrome::syndromes` meets its contract: of whatever bits odd has the values, the entries before 2 l are the syndromes.
-- Assumes nothing.
use mathlib.Core.Path.{◌≡◌}
use mathlib.Core.List.{List}
use Prim.Native.Nat.{ℕ, ◌*◌}
use lib.ListN.{length}
use Rattle.bits.specs.Words.{Bits}
use Rattle.decoder.specs.Syndromes.{Odds, Syndromes}
use Rattle.decoder.proofs.syndrome.syndromes.Given as goal

abbrev pub invariant-loop-l : goal.invariant-loop-l
invariant-loop-l l =
    (length l.out ≡ 32) × ((bits : List ℕ) → Bits bits → Odds bits l.t l.odd → Syndromes bits (l.l * 2) l.out)
