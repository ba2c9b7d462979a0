-- `trial::serve_all` meets its contract: a request more leaves the rest, and its response follows.
use Rattle.std.proofs.Common.{rules}
use Rattle.trial.proofs.Streaming.{steps}
use Rattle.trial.proofs.serve_all.Goals as goal

pub loop-preserved : goal.loop-preserved
loop-preserved g c = search (rules, steps)

pub returns-in-Err-End-clause-rest : goal.returns-in-Err-End-clause-rest
returns-in-Err-End-clause-rest g c = search (rules, steps)

pub returns-in-Err-End-clause-grows : goal.returns-in-Err-End-clause-grows
returns-in-Err-End-clause-grows g c = search (rules, steps)

pub returns-in-Err-Failed-clause-rest : goal.returns-in-Err-Failed-clause-rest
returns-in-Err-Failed-clause-rest g c = search (rules, steps)

pub returns-in-Err-Failed-clause-grows : goal.returns-in-Err-Failed-clause-grows
returns-in-Err-Failed-clause-grows g c = search (rules, steps)
