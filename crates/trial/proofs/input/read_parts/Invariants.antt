-- `trial::input::read_parts` meets its contract: what is left of the input is its rest.
use Rattle.std.proofs.Common.{◌≡◌}
use Rattle.streams.specs.Streams.{LeavesRest}
use Rattle.trial.proofs.input.read_parts.Given as goal

abbrev pub invariant-loop-part : goal.invariant-loop-part
invariant-loop-part g l = (l.part-iterator.size ≡ 512) × LeavesRest (g.R.Read.remaining l.initial.from) (g.R.Read.remaining l.from)
