-- `trial::stream::answer` meets its contract: the list stands after what it begins with.
use Rattle.std.proofs.Common.{rules}
use Rattle.trial.proofs.Streaming.{steps}
use Rattle.trial.proofs.stream.answer.Goals as goal

pub returns : goal.returns
returns g c = search (rules, steps)
