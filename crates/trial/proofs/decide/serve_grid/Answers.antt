-- `trial::decide::serve_grid` meets its contract: each list of points that is read leaves the rest.
use Rattle.std.proofs.Common.{rules}
use Rattle.trial.proofs.Streaming.{steps}
use Rattle.trial.proofs.decide.serve_grid.Goals as goal

pub returns-in_err-n-clause-rest : goal.returns-in_err-n-clause-rest
returns-in_err-n-clause-rest g c = search (rules, steps)

pub returns-in_err-decide_b-clause-rest : goal.returns-in_err-decide_b-clause-rest
returns-in_err-decide_b-clause-rest g c = search (rules, steps)

pub returns-clause-rest : goal.returns-clause-rest
returns-clause-rest g c = search (rules, steps)
