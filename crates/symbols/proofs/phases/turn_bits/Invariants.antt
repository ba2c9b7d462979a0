-- `symbols::phases::turn_bits` meets its contract: what is written so far, then the levels of what is left of the bits.
-- Assumes nothing.
use mathlib.Core.Path.{◌≡◌}
use mathlib.Core.List.{List, ◌++◌}
use Prim.Native.Nat.{ℕ, ◌*◌}
use lib.IntN.{ℤ}
use lib.ListN.{length, take, drop}
use Rattle.bits.specs.Words.{lowest}
use Rattle.symbols.specs.declared.phases.Turned.{Turned}
use Rattle.symbols.specs.ByPhase.{turned_on}
use Rattle.symbols.proofs.phases.turn_bits.Given as goal

-- what is written, and behind it what the bits that are left are turned into
abbrev pub so_far : List ℕ → List ℤ → List ℤ → ℕ → ℕ → Turned
so_far bits is qs last s =
    let rest = turned_on last (drop (2 * s) bits) in
    record { is = take s is ++ rest.is; qs = take s qs ++ rest.qs; last = rest.last }

abbrev pub invariant-loop-s : goal.invariant-loop-s
invariant-loop-s l =
    (length l.is ≡ 210) × (length l.qs ≡ 210) × (so_far (lowest l.bits) l.is l.qs l.last l.s ≡ turned_on l.phase (lowest l.bits))
