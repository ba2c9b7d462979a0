-- `trial::stream::open` meets its contract: the calls are answered after the opening.
use Rattle.std.proofs.Common.{rules}
use Rattle.trial.proofs.Streaming.{steps}
use Rattle.trial.proofs.stream.open.Goals as goal

pub returns-clause-grows : goal.returns-clause-grows
returns-clause-grows g c = search (rules, steps)
