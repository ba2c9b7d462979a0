-- `decoder::syndrome::take` meets its contract: the sums before l have made their step.
-- Assumes nothing.
use mathlib.Core.Path.{refl, ap, ◌∙◌}
use native.Mathlib.Omega.{arith}
use Rattle.field.proofs.Elements.{element_of}
use Rattle.decoder.proofs.DigitTables.{of_times_power, values_are}
use Rattle.decoder.proofs.Horners.{below_next, step}
use Rattle.decoder.proofs.syndrome.take.Goals as goal

pub loop-l-preserved : goal.loop-l-preserved
loop-l-preserved c =
    let loop = c.loop-l in
    let up = c.times_power-up in
    let next = step c.args.m c.args.b c.requires.0 c.requires.1 values_are loop.l (omega arith) _ up.result (ap element_of up.ensures ∙ of_times_power _ _) in
    (loop.invariant.0, below_next _ _ _ loop.invariant.1 (omega arith) refl next)
