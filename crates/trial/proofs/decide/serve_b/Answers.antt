-- `trial::decide::serve_b` meets its contract: each field that is read leaves the rest; until all are read nothing is written.
use Rattle.std.proofs.Common.{rules}
use Rattle.trial.proofs.Streaming.{steps}
use Rattle.trial.proofs.decide.serve_b.Goals as goal

pub returns-in_err-size-clause-rest : goal.returns-in_err-size-clause-rest
returns-in_err-size-clause-rest g c = search (rules, steps)

pub returns-in_err-size-clause-grows : goal.returns-in_err-size-clause-grows
returns-in_err-size-clause-grows g c = search (rules, steps)

pub returns-in_err-s-clause-rest : goal.returns-in_err-s-clause-rest
returns-in_err-s-clause-rest g c = search (rules, steps)

pub returns-in_err-s-clause-grows : goal.returns-in_err-s-clause-grows
returns-in_err-s-clause-grows g c = search (rules, steps)

pub returns-clause-rest : goal.returns-clause-rest
returns-clause-rest g c = search (rules, steps)
