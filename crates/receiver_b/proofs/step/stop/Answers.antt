-- `receiver_b::step::stop` meets its contract: the frame's bytes are cleared, and the refusal is written into the state.
-- Assumes nothing.
use mathlib.Core.Path.{◌≡◌, refl, ap, ap₂, ◌∙◌}
use mathlib.Core.List.{◌++◌}
use Prim.Native.Nat.{ℕ, ◌-◌}
use native.Mathlib.Omega.{arith}
use lib.ListN.{drop, replicate}
use lib.Seq.{length-take-le}
use Rattle.receiver_b.proofs.step.stop.Goals as goal

pub returns : goal.returns
returns c =
    let area = c.args.area.now in
    let size = c.args.s.size in
    let same : size - 0 ≡ size = omega arith in
    let long = length-take-le (size - 0) area (omega arith) ∙ same in
    let zeros = c.fill.ensures.after (λ y e. e) ∙ ap (λ (n : ℕ). replicate n 0) long in
    (refl, c.stopped.ensures, ap₂ ◌++◌ zeros (ap (λ (n : ℕ). drop n area) same))
