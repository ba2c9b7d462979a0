-- `points_table::write_points` meets its contract: what was held stays.
use Rattle.streams.specs.Streams.{Grows}
use Rattle.points_table.proofs.write_points.Given as goal

abbrev pub invariant-loop-label : goal.invariant-loop-label
invariant-loop-label g l = Grows (g.W.Write.contents l.initial.to) (g.W.Write.contents l.to)
