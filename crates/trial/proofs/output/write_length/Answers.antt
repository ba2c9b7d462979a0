-- `trial::output::write_length` meets its contract: the bytes are those of the format.
-- Assumes nothing.
use Rattle.std.proofs.Common.{ap, ◌∙◌, take}
use Rattle.trial.proofs.Packing.{four_le}
use Rattle.trial.proofs.output.write_length.Goals as goal

pub returns-clause-ok : goal.returns-clause-ok
returns-clause-ok g c = rw (ap (take 4) c.to_le_bytes.ensures ∙ four_le c.args.n) at c.write_whole.ensures.ok

pub returns-clause-front : goal.returns-clause-front
returns-clause-front g c = rw (ap (take 4) c.to_le_bytes.ensures ∙ four_le c.args.n) at c.write_whole.ensures.front
