-- `payload_a::check::take_in` meets its contract: the polynomial is added where the digit that falls out differs from the bit that comes in.
-- Assumes nothing.
use mathlib.Core.Path.{sym, ◌∙◌}
use Prim.Native.Nat.{ℕ, ◌*◌, ◌/◌, ◌^◌, ◌<◌}
use native.Mathlib.Omega.{arith}
use lib.Dec.{lit<}
use Rattle.bits.proofs.Remainders.{halved, step_same, step_other}
use Rattle.payload_a.specs.Check.{check_polynomial}
use Rattle.payload_a.proofs.check.take_in.Goals as goal

pub returns-then-register-from : goal.returns-then-register-from
returns-then-register-from c =
    let s = c.args in
    sym (step_same 32 s.register s.b check_polynomial (halved 31 s.register ∙ c.if-register-from.true ∙ c.from.ensures))

pub returns-else-register-from : goal.returns-else-register-from
returns-else-register-from c =
    let s = c.args in
    let x = s.register in
    let n : ℕ = 0x04c1_1db7 in
    let top : x * 2 / 2 ^ 32 < 2 = omega arith in
    sym (step_other 32 x s.b n (lit< tt) c.requires top (λ e. c.if-register-from.false (sym (halved 31 x) ∙ e ∙ sym c.from.ensures)))
