-- `bch::register::Register::step` meets its contract: the generator is added where the digit that falls out differs from the bit that comes in.
-- Assumes nothing.
use mathlib.Core.Path.{◌≡◌, sym, ap, ◌∙◌}
use Prim.Native.Nat.{ℕ, ◌*◌, ◌/◌, ◌^◌, ◌<◌}
use native.Mathlib.Omega.{arith}
use lib.Bits.{bit_xor}
use Rattle.bch.specs.Registers.{contents, whole}
use Rattle.bch.proofs.Triples.{joined-lt}
use Rattle.bits.proofs.Remainders.{halved, step_same, step_other}
use Rattle.bch.proofs.register.Register.step.Goals as goal

pub returns-then-top-from : goal.returns-then-top-from
returns-then-top-from c =
    let s = c.args in
    c.up-moved.ensures
    ∙ sym (step_same 192 (contents s.self) s.b (whole s.g) (halved 191 (contents s.self) ∙ sym c.top.ensures.0 ∙ c.if-top-from.true ∙ c.from.ensures))

pub returns-else-top-from : goal.returns-else-top-from
returns-else-top-from c =
    let s = c.args in
    let t : contents s.self * 2 / 2 ^ 192 ≡ c.top.result
    = halved 191 (contents s.self) ∙ sym c.top.ensures.0 in
    let g : contents s.g < 2 ^ 192 = joined-lt {W = 2 ^ 64} (omega arith) (omega arith) (omega arith) in
    c.xor.ensures
    ∙ ap (λ (n : ℕ). bit_xor n (contents s.g)) c.up-moved.ensures
    ∙ sym (step_other 192 (contents s.self) s.b (contents s.g) g c.requires
    (rw t c.top.ensures.1) (λ e. c.if-top-from.false (sym t ∙ e ∙ sym c.from.ensures)))
