-- `remainders::Seen::machine_word` meets its contract: all of v is added at the top, and sixteen zeros are taken in four times.
-- Assumes nothing.
use mathlib.Core.Path.{◌≡◌, ap, ◌∙◌}
use Prim.Native.Nat.{ℕ, ◌*◌, ◌/◌, ◌%◌, ◌^◌}
use native.Mathlib.Omega.{arith}
use lib.Bits.{bit_xor}
use Rattle.bch.specs.Registers.{contents}
use Rattle.remainders.specs.Seen.{seen}
use Rattle.remainders.specs.Taking.{turn_by_16, turns_by, bytes_by}
use Rattle.remainders.proofs.Seen.machine_word.Goals as goal

pub returns : goal.returns
unfolding bytes_by turns_by
returns c =
    let a = c.args in
    let v = a.v in
    let next : ℕ → ℕ = turn_by_16 (seen a.self.now) in
    let all : v * 2 ^ 128 ≡ v / 1 * 1 % 2 ^ 64 * 2 ^ 128 = let e : v ≡ v / 1 * 1 % 2 ^ 64 = omega arith in ap (λ (n : ℕ). n * 2 ^ 128) e in
    let r0 = c.plus_top-r0.ensures ∙ ap (bit_xor (contents a.r)) all in
    let r1 = c.turn16-r1.ensures ∙ ap next r0 in
    let r2 = c.turn16-r2.ensures ∙ ap next r1 in
    let r3 = c.turn16-r3.ensures ∙ ap next r2 in
    c.turn16.ensures ∙ ap next r3
