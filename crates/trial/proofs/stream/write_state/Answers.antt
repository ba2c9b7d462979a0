-- `trial::stream::write_state` meets its contract: each write stands after those before it.
use Rattle.std.proofs.Common.{rules}
use Rattle.trial.proofs.Streaming.{writes}
use Rattle.trial.proofs.stream.write_state.Goals as goal

pub returns-in_err-write_bytes : goal.returns-in_err-write_bytes
returns-in_err-write_bytes g c = search (rules, writes) depth 16

pub returns-in_err-write_block : goal.returns-in_err-write_block
returns-in_err-write_block g c = search (rules, writes) depth 16

pub returns-in_err-write_count : goal.returns-in_err-write_count
returns-in_err-write_count g c = search (rules, writes) depth 16

pub returns-in_err-write_byte : goal.returns-in_err-write_byte
returns-in_err-write_byte g c = search (rules, writes) depth 16

pub returns-in_err-write_count-2 : goal.returns-in_err-write_count-2
returns-in_err-write_count-2 g c = search (rules, writes) depth 16

pub returns-in_err-write_count-3 : goal.returns-in_err-write_count-3
returns-in_err-write_count-3 g c = search (rules, writes) depth 16

pub returns-in_err-write_register : goal.returns-in_err-write_register
returns-in_err-write_register g c = search (rules, writes) depth 16

pub returns-in_err-write_count-4 : goal.returns-in_err-write_count-4
returns-in_err-write_count-4 g c = search (rules, writes) depth 16

pub returns-in_err-write_count-5 : goal.returns-in_err-write_count-5
returns-in_err-write_count-5 g c = search (rules, writes) depth 16

pub returns : goal.returns
returns g c = search (rules, writes) depth 16
