-- Every row of the table holds, by computation.
-- Assumes nothing.
use mathlib.Core.Path.{refl}
use Rattle.bits.specs.Words.{digits}
use Rattle.bits.specs.Remainders.{reduced, step, remainder_from, remainder}
use Rattle.bch.specs.Codes.{encoded}
use Rattle.symbols.specs.Grid.{carrier_of}
use Rattle.points.specs.Constellations.{tables, columns, points, point_of}
use Rattle.points.specs.Dqpsk.{phases, turn, phase_point, turned_from, turned}
use Rattle.payload.specs.Scrambler.{formed, shifted, scrambled_from, scrambled}
use Rattle.payload_a.specs.Check.{check_of}
use Rattle.payload_a.specs.Segments.{symbol_of, framed}
use Rattle.payload_a.specs.CodedA.{points_a}
use Rattle.symbols.specs.Schemes.{sum_of}
use Rattle.numbers.specs.Table.{table, Agrees}

pub claim : Agrees table
unfolding table scrambled scrambled_from formed shifted check_of encoded remainder remainder_from step reduced digits points_a framed symbol_of turned turned_from turn phase_point phases carrier_of point_of points columns tables sum_of
claim = (refl, (refl, (refl, (refl, (refl, (refl, (refl, (refl, (refl, (refl, (refl, (refl, (refl, (refl, (refl, (refl, (refl, tt)))))))))))))))))
