-- `trial::jobs_b::receive` meets its contract: each write stands after those before it.
use Rattle.std.proofs.Common.{rules}
use Rattle.trial.proofs.Streaming.{writes}
use Rattle.trial.proofs.jobs_b.receive.Goals as goal

pub returns-in_err-write_count : goal.returns-in_err-write_count
returns-in_err-write_count g c = search (rules, writes)

pub returns-in_err-write_count-2 : goal.returns-in_err-write_count-2
returns-in_err-write_count-2 g c = search (rules, writes)

pub returns : goal.returns
returns g c = search (rules, writes)
