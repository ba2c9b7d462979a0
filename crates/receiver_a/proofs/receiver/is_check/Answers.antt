-- `receiver_a::receiver::is_check` meets its contract: numbers below 2^32 with the same 32 digits are the same.
-- Assumes nothing.
use mathlib.Core.Path.{◌≡◌, sym, ap, ◌∙◌}
use Prim.Native.Nat.{ℕ, ◌^◌, ◌<◌}
use native.Mathlib.Omega.{arith}
use borrow.Author.Tests.{eqb-true, eqb-false}
use Rattle.bits.specs.Words.{digits}
use Rattle.bits.proofs.Numbers.{digits_inj, number_read}
use Rattle.receiver_a.proofs.receiver.is_check.Goals as goal

pub returns : goal.returns
returns c =
    let x = c.as_number.result in
    let k = c.args.check in
    let read = number_read c.args.bits.now x c.requires.0 (omega arith) c.as_number.ensures in
    let e : digits 32 x ≡ c.args.bits.now = ap (λ (n : ℕ). digits n x) (sym c.requires.1) ∙ read.0 in
    let hx : x < 2 ^ 32 = rw c.requires.1 at read.1 in
    (λ t. sym e ∙ ap (digits 32) (eqb-true x k t), λ f d. eqb-false x k f (digits_inj 32 x k hx (omega arith) (e ∙ d)))
