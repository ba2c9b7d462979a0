-- `trial::input::read_list` meets its contract: count and bytes leave the rest.
use Rattle.streams.proofs.Reading.{rest_trans}
use Rattle.trial.proofs.input.read_list.Goals as goal

pub returns-in_err-fill-clause-rest : goal.returns-in_err-fill-clause-rest
returns-in_err-fill-clause-rest g c = rest_trans _ _ _ c.read_count.ensures.rest c.fill.ensures.rest

pub returns-clause-rest : goal.returns-clause-rest
returns-clause-rest g c = rest_trans _ _ _ c.read_count.ensures.rest c.fill.ensures.rest
