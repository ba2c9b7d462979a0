-- `trial::output::write_count` meets its contract: the bytes are those of the format.
-- Assumes nothing.
use Rattle.std.proofs.Common.{ap, ◌∙◌, take}
use Rattle.trial.proofs.Packing.{eight_le}
use Rattle.trial.proofs.output.write_count.Goals as goal

pub returns-clause-ok : goal.returns-clause-ok
returns-clause-ok g c = rw (c.to_le_bytes.ensures ∙ eight_le c.args.n) at c.write_whole.ensures.ok

pub returns-clause-front : goal.returns-clause-front
returns-clause-front g c = rw (c.to_le_bytes.ensures ∙ eight_le c.args.n) at c.write_whole.ensures.front
