-- `trial::stream::call_all` meets its contract: each call leaves the rest of the input, and what it writes follows.
use Rattle.streams.specs.Streams.{LeavesRest, Grows}
use Rattle.trial.proofs.stream.call_all.Given as goal

abbrev pub invariant-loop : goal.invariant-loop
invariant-loop g l = record {
  rest : LeavesRest (g.R.Read.remaining l.initial.from) (g.R.Read.remaining l.from);
  grows : Grows (g.W.Write.contents l.initial.to) (g.W.Write.contents l.to);
}
