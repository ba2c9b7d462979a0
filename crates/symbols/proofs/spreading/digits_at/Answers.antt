-- `symbols::spreading::digits_at` meets its contract: the highest n of 64 digits from the place `at` on.
-- Assumes nothing.
use mathlib.Core.Path.{◌≡◌, refl, ◌∙◌}
use Prim.Native.Nat.{◌-◌, ◌/◌, ◌^◌, ◌<◌}
use native.Mathlib.Omega.{arith}
use lib.ListN.{take, drop, length-take}
use Rattle.bits.specs.Bytes.{as_number}
use Rattle.bits.proofs.Numbers.{number_low}
use Rattle.packed.specs.Packed.{bits_from}
use Rattle.packed.proofs.Windows.{across_known}
use Rattle.symbols.proofs.Writings.{number_at}
use Rattle.symbols.proofs.spreading.digits_at.Goals as goal
use Rattle.symbols.proofs.spreading.digits_at.Goals.{After-across}

-- what is read
number : (c : After-across)
    → c.across.result / 2 ^ (64 - c.args.size.n) ≡ as_number (take c.args.size.n (drop c.args.at (bits_from 41 0 c.args.bits.now)))
number c =
    let a = c.args in
    let e = c.across.ensures ∙ across_known a.at refl c.word_at.ensures in
    let small : c.across.result < 2 ^ 64 = omega arith in
    number_at a.bits.now a.at a.size.n c.across.result (omega (arith, c.requires)) (omega (arith, c.requires)) small e

pub overflow_cast-result-2 : goal.overflow_cast-result-2
overflow_cast-result-2 c =
    let a = c.args in
    let bits = drop a.at (bits_from 41 0 a.bits.now) in
    let few = number_low 10 (take a.size.n bits) (omega (arith, length-take a.size.n bits)) in
    omega (arith, number (goal.at.overflow_cast-result-2 c).After-across, few)

pub returns : goal.returns
returns c = number (goal.at.returns c).After-across
