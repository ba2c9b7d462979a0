-- `symbols::phases::first_fault` meets its contract: the look by places is one at the phases of the points.
-- Assumes nothing.
use mathlib.Core.Path.{ap, ◌∙◌}
use mathlib.Core.Bool.{cond}
use Rattle.std.specs.Prelude.{Ok}
use Rattle.symbols.specs.Faults.{roomy, fault_at}
use Rattle.symbols.proofs.Strays.{stray_phases}
use Rattle.symbols.proofs.phases.first_fault.Goals as goal

pub returns : goal.returns
returns c =
    let m = c.args.m in
    let i = c.args.i.now in
    let q = c.args.q.now in
    c.first_fault.ensures ∙ ap (λ stray. cond (roomy m i q) (fault_at stray m i q) (Ok tt)) (stray_phases m i q)
