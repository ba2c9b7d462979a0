-- `trial::word::encode` meets its contract: each write stands after those before it.
use Rattle.std.proofs.Common.{rules}
use Rattle.trial.proofs.Streaming.{steps}
use Rattle.trial.proofs.word.encode.Goals as goal

pub returns : goal.returns
returns g c = search (rules, steps)
