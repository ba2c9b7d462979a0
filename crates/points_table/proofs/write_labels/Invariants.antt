-- `points_table::write_labels` meets its contract: what was held stays.
use Rattle.streams.specs.Streams.{Grows}
use Rattle.points_table.proofs.write_labels.Given as goal

abbrev pub invariant-loop-i : goal.invariant-loop-i
invariant-loop-i g l = Grows (g.W.Write.contents l.initial.to) (g.W.Write.contents l.to)
