-- `points_table::write_labels` meets its contract: a call adds to what the calls before it added.
use Rattle.streams.proofs.Writing.{grows_trans}
use Rattle.points_table.proofs.write_labels.Goals as goal

pub returns-in_err-write_row : goal.returns-in_err-write_row
returns-in_err-write_row g c = grows_trans _ _ _ c.loop-i.invariant c.write_row.ensures

pub loop-i-preserved : goal.loop-i-preserved
loop-i-preserved g c = grows_trans _ _ _ c.loop-i.invariant c.write_row.ensures
