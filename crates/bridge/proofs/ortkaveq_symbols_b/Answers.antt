-- `bridge::ortkaveq_symbols_b` meets its contract: what the checks 1, 2, 5 and 6 found, told.
-- Assumes nothing.
use mathlib.Core.Path.{sym, ap, ◌∙◌}
use native.Mathlib.Omega.{arith}
use Rattle.answers.specs.Checks.{Checked, passes}
use Rattle.payload_b.specs.CodedB.{symbols_for}
use Rattle.payload_b.specs.declared.plan.Plan.{Plan}
use Rattle.payload_b.proofs.Plans.{plan_passes}
use Rattle.bridge.specs.Calls.{needed_of}
use Rattle.bridge.proofs.ortkaveq_symbols_b.Goals as goal

pub overflow_cast-result : goal.overflow_cast-result
overflow_cast-result c =
    let found = c.in-Ok.ensures in
    record { fits = omega (arith, found.0.few, ap (λ (p : Plan). p.symbols) found.1) }

pub returns-in-Ok : goal.returns-in-Ok
returns-in-Ok c =
    let s = c.args in
    let found = c.in-Ok.ensures in
    let needed = symbols_for s.mode s.size s.scheme.now in
    ap (λ (p : Plan). needed_of (passes tt) p.symbols) found.1 ∙ ap (λ (k : Checked Unit). needed_of k needed) (sym (plan_passes found.0 (passes tt)))

pub returns-in-Err : goal.returns-in-Err
returns-in-Err c =
    let s = c.args in
    let needed = symbols_for s.mode s.size s.scheme.now in
    rw c.from.ensures at c.none_needed.ensures ∙ ap (λ (k : Checked Unit). needed_of k needed) (sym (c.in-Err.ensures (passes tt)))
