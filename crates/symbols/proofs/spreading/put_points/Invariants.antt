-- `symbols::spreading::put_points` meets its contract: the levels of the first s points are on their sub-carriers, and the others are empty.
-- Assumes nothing.
use mathlib.Core.Path.{◌≡◌}
use lib.ListN.{take}
use Rattle.packed.specs.Packed.{bits_from}
use Rattle.points.specs.Constellations.{level_i, level_q}
use Rattle.symbols.specs.Schemes.{sum_of}
use Rattle.symbols.specs.ByScheme.{mapped_by}
use Rattle.symbols.proofs.Spreads.{Put}
use Rattle.symbols.proofs.spreading.put_points.Given as goal

abbrev pub invariant-loop-s : goal.invariant-loop-s
invariant-loop-s l =
    (l.at ≡ sum_of (take l.s l.scheme.entries.now))
    × Put level_i (mapped_by l.cells l.scheme.entries.now (bits_from 41 0 l.bits)) l.s l.i × Put level_q (mapped_by l.cells l.scheme.entries.now (bits_from 41 0 l.bits)) l.s l.q
