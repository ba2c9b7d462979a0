-- `bench::skip_rest` meets its contract: what a turn leaves is the rest of what the turns before it left.
use Rattle.streams.proofs.Reading.{rest_trans}
use Rattle.bench.proofs.skip_rest.Goals as goal

pub returns-in_err-read_full-clause-rest : goal.returns-in_err-read_full-clause-rest
returns-in_err-read_full-clause-rest g c = rest_trans _ _ _ c.loop.invariant c.read_full.ensures.rest

pub returns-then-branch-lt4096-clause-rest : goal.returns-then-branch-lt4096-clause-rest
returns-then-branch-lt4096-clause-rest g c = rest_trans _ _ _ c.loop.invariant c.read_full.ensures.rest

pub loop-preserved : goal.loop-preserved
loop-preserved g c = rest_trans _ _ _ c.loop.invariant c.read_full.ensures.rest
