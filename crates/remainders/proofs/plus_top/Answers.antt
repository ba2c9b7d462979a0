-- `remainders::plus_top` meets its contract: the digits of v stand at the top of a register whose other digits are zeros.
-- Assumes nothing.
use mathlib.Core.Path.{◌≡◌, sym, ap, ap₂, ◌∙◌}
use Prim.Native.Nat.{ℕ, ◌+◌, ◌*◌, ◌^◌}
use native.Mathlib.Nat.{add-zero, mul_assoc}
use native.Mathlib.Omega.{arith}
use lib.Bits.{bit_xor, xor_zero_r}
use lib.Pow.{pow_pos}
use Rattle.bch.specs.Registers.{contents}
use Rattle.bch.proofs.Triples.{joined, joined-xor}
use Rattle.remainders.proofs.plus_top.Goals as goal

pub returns : goal.returns
returns c =
    let r = c.args.r in
    let v = c.args.v in
    let W = 2 ^ 64 in
    let top : joined W v 0 0 ≡ v * 2 ^ 128
    = add-zero ((v * W + 0) * W) ∙ ap (λ (n : ℕ). n * W) (add-zero (v * W)) ∙ mul_assoc v W W in
    sym (ap₂ (λ (m l : ℕ). joined W (bit_xor r.high v) m l) (xor_zero_r r.mid) (xor_zero_r r.low))
    ∙ joined-xor 64 r.high r.mid r.low v 0 0 (omega arith) (omega arith) (pow_pos 64) (pow_pos 64)
    ∙ ap (bit_xor (contents r)) top
