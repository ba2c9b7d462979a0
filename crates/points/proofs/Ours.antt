-- The code's tables: the two that Annex B makes, a quarter of each of its tables, and the place of each cell in its quarter; and the phases of DQPSK. Computed.
-- Assumes nothing.
use mathlib.Core.Path.{◌≡◌, refl}
use Rattle.ground.specs.First.{up_from}
use Rattle.points.specs.declared.dqpsk.TheConstants.{PHASES}
use Rattle.points.specs.declared.tables.TheConstants.{CELLS, QUADRANTS}
use Rattle.points.specs.Constellations.{tables, columns, points}
use Rattle.points.specs.Dqpsk.{phases}
use Rattle.points.specs.Lent.{quarter_of, quarter_cells, word, words, our_cells, place_from, starts_from, quarter_lows, our_quadrants}

pub cells_ours : CELLS ≡ our_cells
unfolding our_cells quarter_cells words word quarter_of points columns tables
cells_ours = refl {a = our_cells}

pub quadrants_ours : QUADRANTS ≡ our_quadrants
unfolding our_quadrants starts_from quarter_lows place_from up_from quarter_cells words word quarter_of points columns tables
quadrants_ours = refl {a = our_quadrants}

pub phases_ours : PHASES ≡ phases
unfolding phases
phases_ours = refl {a = phases}
