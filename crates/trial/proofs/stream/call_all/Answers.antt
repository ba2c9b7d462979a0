-- `trial::stream::call_all` meets its contract: a call more leaves the rest, and what it writes follows.
use Rattle.std.proofs.Common.{rules}
use Rattle.trial.proofs.Streaming.{steps}
use Rattle.trial.proofs.stream.call_all.Goals as goal

pub returns-in_err-call-clause-rest : goal.returns-in_err-call-clause-rest
returns-in_err-call-clause-rest g c = search (rules, steps)

pub returns-in_err-call-clause-grows : goal.returns-in_err-call-clause-grows
returns-in_err-call-clause-grows g c = search (rules, steps)

pub loop-preserved : goal.loop-preserved
loop-preserved g c = search (rules, steps)
