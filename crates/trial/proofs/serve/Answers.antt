-- `trial::serve` meets its contract: the job byte is read, and then the fields of the job.
use Rattle.std.proofs.Common.{rules}
use Rattle.trial.proofs.Streaming.{steps}
use Rattle.trial.proofs.serve.Goals as goal

pub returns-in-1-clause-rest : goal.returns-in-1-clause-rest
returns-in-1-clause-rest g c = search (rules, steps)

pub returns-in-3-clause-rest : goal.returns-in-3-clause-rest
returns-in-3-clause-rest g c = search (rules, steps)

pub returns-in-4-clause-rest : goal.returns-in-4-clause-rest
returns-in-4-clause-rest g c = search (rules, steps)

pub returns-in-5-clause-rest : goal.returns-in-5-clause-rest
returns-in-5-clause-rest g c = search (rules, steps)

pub returns-in-6-clause-rest : goal.returns-in-6-clause-rest
returns-in-6-clause-rest g c = search (rules, steps)

pub returns-in-7-clause-rest : goal.returns-in-7-clause-rest
returns-in-7-clause-rest g c = search (rules, steps)

pub returns-in-8-clause-rest : goal.returns-in-8-clause-rest
returns-in-8-clause-rest g c = search (rules, steps)

pub returns-in-9-clause-rest : goal.returns-in-9-clause-rest
returns-in-9-clause-rest g c = search (rules, steps)

pub returns-in-16-clause-rest : goal.returns-in-16-clause-rest
returns-in-16-clause-rest g c = search (rules, steps)

pub returns-in-2-clause-rest : goal.returns-in-2-clause-rest
returns-in-2-clause-rest g c = search (rules, steps)
