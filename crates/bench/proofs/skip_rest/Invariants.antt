-- `bench::skip_rest` meets its contract: what is left is the rest of what there was.
use Rattle.streams.specs.Streams.{LeavesRest}
use Rattle.bench.proofs.skip_rest.Given as goal

abbrev pub invariant-loop : goal.invariant-loop
invariant-loop g l = LeavesRest (g.R.Read.remaining l.initial.from) (g.R.Read.remaining l.from)
