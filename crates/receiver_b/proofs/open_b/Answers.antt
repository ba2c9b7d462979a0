-- `receiver_b::open_b` meets its contract: a refusal of 1, 2, 5 or 6 is what the state holds.
-- Assumes nothing.
use mathlib.Core.Path.{sym, ap, ap₂, ◌∙◌}
use mathlib.Core.List.{[]}
use native.Mathlib.Omega.{arith}
use lib.ListN.{replicate}
use lib.Seq.{take_all, length-take-le}
use Rattle.answers.specs.Checks.{Checked, passes}
use Rattle.answers.proofs.Telling.{because_is}
use Rattle.payload_b.specs.StreamB.{with_scheme, moving, stopped, Opens}
use Rattle.payload_b.specs.declared.stream.Moving.{Moving}
use Rattle.symbols.specs.Grid.{symbol_points}
use Rattle.payload_b.proofs.Plans.{plan_passes}
use Rattle.payload_b.proofs.VerdictsB.{plan_fails}
use Rattle.receiver_b.proofs.open_b.Goals as goal

pub returns-in-Err : goal.returns-in-Err
returns-in-Err c =
    let a = c.args in
    let why = c.in-Err.why in
    let none = c.stopped.ensures ∙ ap (λ (m : Moving). moving (stopped why (with_scheme [] m))) c.unseen.ensures in
    let state = c.with_scheme.ensures ∙ ap (with_scheme (replicate symbol_points 0)) none in
    plan_fails (λ (k : Checked Unit). Opens k a.mode a.size a.scheme.now c.with_scheme.result) a.mode a.size a.scheme.now why c.in-Err.ensures
    (record { why = why; told = because_is why; state = state }) (passes tt)

pub slice_bounds-copy_from_slice-end-in-Ok : goal.slice_bounds-copy_from_slice-end-in-Ok
slice_bounds-copy_from_slice-end-in-Ok c = let long = length-take-le 210 c.args.scheme.now (omega (arith, c.in-Ok.ensures.0.entries.long)) in omega (arith, long, c.in-Ok.ensures.0.entries.long)

pub copy_from_slice-requires : goal.copy_from_slice-requires
copy_from_slice-requires c = sym (length-take-le 210 c.args.scheme.now (omega (arith, c.in-Ok.ensures.0.entries.long)))

pub returns-in-Ok : goal.returns-in-Ok
returns-in-Ok c =
    let scheme = c.args.scheme.now in
    let whole = take_all 210 scheme (omega (arith, c.in-Ok.ensures.0.entries.long)) in
    rw (plan_passes c.in-Ok.ensures.0 (passes tt))
    (c.with_scheme-in-Ok.ensures ∙ ap₂ with_scheme (c.copy_from_slice.ensures.after ∙ whole) c.unseen-in-Ok.ensures)
