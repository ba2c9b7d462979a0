-- `symbols::checks::first_fault` meets its contract: what passes the quick look has no fault, and an occupied sub-carrier goes before a stray point.
-- Assumes nothing.
use mathlib.Core.Path.{sym, ◌∙◌}
use native.Mathlib.Omega.{arith}
use Rattle.symbols.proofs.Faults.{fault_occupied, fault_none}
use Rattle.symbols.proofs.checks.first_fault.Goals as goal

pub returns-then-all_pass : goal.returns-then-all_pass
returns-then-all_pass g c =
    let a = c.args in
    let both = c.all_pass.ensures c.if-all_pass.true in
    rw (sym c.is_roomy.ensures ∙ c.if-not-is_roomy.false) (fault_none _ a.m a.i.now a.q.now (omega (arith, both.0)) (omega (arith, both.1)))

pub returns-then-occupied-m : goal.returns-then-occupied-m
returns-then-occupied-m g c =
    let a = c.args in
    let first = c.first_occupied-occupied in
    rw (sym c.is_roomy.ensures ∙ c.if-not-is_roomy.false, first.ensures) (fault_occupied _ a.m a.i.now a.q.now (omega (arith, first.ensures)))
