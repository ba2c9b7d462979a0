-- `trial::jobs_a::receive` meets its contract: each write stands after those before it.
use Rattle.std.proofs.Common.{rules}
use Rattle.trial.proofs.Streaming.{writes}
use Rattle.trial.proofs.jobs_a.receive.Goals as goal

pub returns-in_err-write_count : goal.returns-in_err-write_count
returns-in_err-write_count g c = search (rules, writes) depth 12

pub returns-in_err-write_count-2 : goal.returns-in_err-write_count-2
returns-in_err-write_count-2 g c = search (rules, writes) depth 12

pub returns-in_err-write_count-3 : goal.returns-in_err-write_count-3
returns-in_err-write_count-3 g c = search (rules, writes) depth 12

pub returns-in_err-write_places : goal.returns-in_err-write_places
returns-in_err-write_places g c = search (rules, writes) depth 12

pub returns-in_err-write_places-2 : goal.returns-in_err-write_places-2
returns-in_err-write_places-2 g c = search (rules, writes) depth 12

pub returns : goal.returns
returns g c = search (rules, writes) depth 12
