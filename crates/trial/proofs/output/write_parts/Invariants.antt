-- `trial::output::write_parts` meets its contract: the parts are written from the front, and each turn writes one more.
use Rattle.std.proofs.Common.{◌≡◌}
use Rattle.trial.proofs.Packing.{Written}
use Rattle.trial.proofs.output.write_parts.Given as goal

abbrev pub invariant-loop-part : goal.invariant-loop-part
invariant-loop-part g l = (l.part-iterator.size ≡ 512) × Written (g.W.Write.contents l.initial.to) (g.W.Write.contents l.to) l.levels l.part-iterator.rest.now
