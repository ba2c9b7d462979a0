-- `trial::input::read_parts` meets its contract: one part more leaves the rest.
use Rattle.std.proofs.Common.{◌∙◌}
use Rattle.streams.proofs.Reading.{rest_trans}
use Rattle.trial.proofs.input.read_parts.Goals as goal

pub returns-in_err-read_part : goal.returns-in_err-read_part
returns-in_err-read_part g c = rest_trans _ _ _ c.loop-part.invariant.1 c.read_part.ensures

pub loop-part-preserved : goal.loop-part-preserved
loop-part-preserved g c = (c.in-Some.ensures.steps.0 ∙ c.loop-part.invariant.0, rest_trans _ _ _ c.loop-part.invariant.1 c.read_part.ensures)
