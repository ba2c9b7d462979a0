-- `points_table::write_points` meets its contract: a call adds to what the calls before it added.
use Rattle.streams.proofs.Writing.{grows_trans}
use Rattle.points_table.proofs.write_points.Goals as goal

pub returns-in_err-write_point : goal.returns-in_err-write_point
returns-in_err-write_point g c = grows_trans _ _ _ c.loop-label.invariant c.write_point.ensures

pub loop-label-preserved : goal.loop-label-preserved
loop-label-preserved g c = grows_trans _ _ _ c.loop-label.invariant c.write_point.ensures
