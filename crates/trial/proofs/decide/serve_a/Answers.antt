-- `trial::decide::serve_a` meets its contract: each field that is read leaves the rest.
use Rattle.std.proofs.Common.{rules}
use Rattle.trial.proofs.Streaming.{steps}
use Rattle.trial.proofs.decide.serve_a.Goals as goal

pub returns-in_err-m-clause-rest : goal.returns-in_err-m-clause-rest
returns-in_err-m-clause-rest g c = search (rules, steps)

pub returns-in_err-n-clause-rest : goal.returns-in_err-n-clause-rest
returns-in_err-n-clause-rest g c = search (rules, steps)

pub returns-in_err-decide_a-clause-rest : goal.returns-in_err-decide_a-clause-rest
returns-in_err-decide_a-clause-rest g c = search (rules, steps)

pub returns-clause-rest : goal.returns-clause-rest
returns-clause-rest g c = search (rules, steps)
