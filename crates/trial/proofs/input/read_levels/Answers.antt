-- `trial::input::read_levels` meets its contract: count and levels leave the rest.
use Rattle.streams.proofs.Reading.{rest_trans}
use Rattle.trial.proofs.input.read_levels.Goals as goal

pub returns-in_err-read_parts-clause-rest : goal.returns-in_err-read_parts-clause-rest
returns-in_err-read_parts-clause-rest g c = rest_trans _ _ _ c.read_count.ensures.rest c.read_parts.ensures

pub returns-clause-rest : goal.returns-clause-rest
returns-clause-rest g c = rest_trans _ _ _ c.read_count.ensures.rest c.read_parts.ensures
