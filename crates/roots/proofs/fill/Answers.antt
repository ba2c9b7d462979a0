-- `roots::fill` meets its contract: what is added to zeros is what stands there.
-- Assumes nothing.
use Rattle.roots.proofs.Rows.{filled_none}
use Rattle.roots.proofs.fill.Goals as goal

pub returns : goal.returns
returns c = filled_none c.args.t c.requires c.add_rows.ensures
