-- `trial::jobs_a::serve_receive` meets its contract: each field that is read leaves the rest.
use Rattle.std.proofs.Common.{rules}
use Rattle.trial.proofs.Streaming.{steps}
use Rattle.trial.proofs.jobs_a.serve_receive.Goals as goal

pub returns-in_err-m-clause-rest : goal.returns-in_err-m-clause-rest
returns-in_err-m-clause-rest g c = search (rules, steps)

pub returns-in_err-n-clause-rest : goal.returns-in_err-n-clause-rest
returns-in_err-n-clause-rest g c = search (rules, steps)

pub returns-in_err-receive-clause-rest : goal.returns-in_err-receive-clause-rest
returns-in_err-receive-clause-rest g c = search (rules, steps)

pub returns-clause-rest : goal.returns-clause-rest
returns-clause-rest g c = search (rules, steps)
