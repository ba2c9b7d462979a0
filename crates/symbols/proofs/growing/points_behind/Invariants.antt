-- `symbols::growing::points_behind` meets its contract: the machine words, with the one that is not yet full, hold the bits of the first s points.
-- Assumes nothing.
use mathlib.Core.Path.{◌≡◌}
use mathlib.Core.List.{◌++◌}
use Prim.Native.Nat.{◌+◌}
use lib.ListN.{take}
use Rattle.packed.specs.Packed.{bits_from}
use Rattle.symbols.specs.Grids.{points_from}
use Rattle.symbols.specs.Schemes.{sum_of}
use Rattle.symbols.specs.ByScheme.{read_by_in}
use Rattle.symbols.proofs.Growth.{Grown}
use Rattle.symbols.proofs.growing.points_behind.Given as goal

abbrev pub invariant-loop-s : goal.invariant-loop-s
invariant-loop-s l =
    (l.at ≡ l.count + sum_of (take l.s l.scheme.entries.now))
    × Grown (take l.count (bits_from 41 0 l.initial.words) ++ read_by_in l.quadrants (take l.s l.scheme.entries.now) (take l.s (points_from l.i l.q 1 210))) l.at l.top l.words
