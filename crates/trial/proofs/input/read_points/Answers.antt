-- `trial::input::read_points` meets its contract: I and Q leave the rest.
use Rattle.streams.proofs.Reading.{rest_trans}
use Rattle.trial.proofs.input.read_points.Goals as goal

pub returns-in_err-of_q-clause-rest : goal.returns-in_err-of_q-clause-rest
returns-in_err-of_q-clause-rest g c = rest_trans _ _ _ c.read_levels.ensures.rest c.read_levels-2.ensures.rest

pub returns-clause-rest : goal.returns-clause-rest
returns-clause-rest g c = rest_trans _ _ _ c.read_levels.ensures.rest c.read_levels-2.ensures.rest
