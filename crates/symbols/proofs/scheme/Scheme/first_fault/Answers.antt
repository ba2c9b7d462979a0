-- `symbols::scheme::Scheme::first_fault` meets its contract: the look by places is one at the labels of the points.
-- Assumes nothing.
use mathlib.Core.Path.{ap, ◌∙◌}
use mathlib.Core.Bool.{cond}
use Rattle.std.specs.Prelude.{Ok}
use Rattle.symbols.specs.Faults.{roomy, fault_at}
use Rattle.symbols.proofs.Faults.{looked_at, good_readable}
use Rattle.symbols.proofs.Strays.{stray_scheme}
use Rattle.symbols.proofs.scheme.Scheme.first_fault.Goals as goal

pub returns : goal.returns
returns c =
    let m = c.args.m in
    let i = c.args.i.now in
    let q = c.args.q.now in
    let scheme = c.args.self in
    let good = looked_at scheme.long scheme.within in
    rw (good_readable good m i q)
    (c.first_fault.ensures ∙ ap (λ stray. cond (roomy m i q) (fault_at stray m i q) (Ok tt)) (stray_scheme m i q good))
