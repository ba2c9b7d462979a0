-- `trial::serve_all` meets its contract: each request leaves the rest of the input, and its response follows.
use Rattle.streams.specs.Streams.{LeavesRest, Grows}
use Rattle.trial.proofs.serve_all.Given as goal

abbrev pub invariant-loop : goal.invariant-loop
invariant-loop g l = record {
  rest : LeavesRest (g.R.Read.remaining l.initial.from) (g.R.Read.remaining l.from);
  grows : Grows (g.W.Write.contents l.initial.to) (g.W.Write.contents l.to);
}
