-- `trial::word::decode` meets its contract: each write stands after those before it.
use Rattle.std.proofs.Common.{rules}
use Rattle.trial.proofs.Streaming.{steps}
use Rattle.trial.proofs.word.decode.Goals as goal

pub returns-in_err-write_count : goal.returns-in_err-write_count
returns-in_err-write_count g c = search (rules, steps)

pub returns-in_err-write_places : goal.returns-in_err-write_places
returns-in_err-write_places g c = search (rules, steps)

pub returns : goal.returns
returns g c = search (rules, steps)
