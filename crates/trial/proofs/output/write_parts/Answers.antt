-- `trial::output::write_parts` meets its contract: a part more stands after the bytes of those before it; one that fails leaves a front of its own.
use Rattle.std.proofs.Common.{◌∙◌, ap}
use Rattle.trial.proofs.Packing.{written_none, written_more, written_front}
use Rattle.trial.proofs.output.write_parts.Goals as goal

pub loop-part-init : goal.loop-part-init
loop-part-init g c =
    let is = c.into_iter-part-iterator.ensures.into_iter_gives in
    (ap (λ it. it.size) is ∙ c.chunks-part-items.ensures.size, written_none _ _ _ (ap (λ it. it.rest.now) is ∙ c.chunks-part-items.ensures.rest))

pub loop-part-preserved : goal.loop-part-preserved
loop-part-preserved g c =
    let step = c.in-Some.ensures.steps in
    (step.0 ∙ c.loop-part.invariant.0, written_more _ _ _ _ _ _ _ c.loop-part.invariant.1 step.1.0 c.in_ok-write_part.ensures.ok)

pub returns-in_err-write_part-clause-front : goal.returns-in_err-write_part-clause-front
returns-in_err-write_part-clause-front g c = written_front _ _ _ _ _ _ _ c.loop-part.invariant.1 c.in-Some.ensures.steps.1.0 c.in_err-write_part.ensures.front
