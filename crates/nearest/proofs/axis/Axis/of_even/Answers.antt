-- An axis of a full square has as many levels as the table says, at each number of bits.
-- Assumes nothing.
use mathlib.Core.Path.{◌≡◌, refl}
use Prim.Native.Nat.{ℕ, ◌*◌, ◌/◌, ◌%◌, ◌^◌, ◌≤◌}
use native.Mathlib.Omega.{arith}
use Rattle.nearest.specs.Axes.{width_of}
use Rattle.nearest.proofs.Signed.{even_cases}
use Rattle.nearest.proofs.axis.Axis.of_even.Goals as goal

even_width : (n : ℕ) → n % 2 ≡ 0 → 2 ≤ n → n ≤ 10
    → (1 * 2 ^ (n / 2) % 65536 ≡ width_of n) × (2 ≤ 1 * 2 ^ (n / 2) % 65536) × (1 * 2 ^ (n / 2) % 65536 ≤ 32)
unfolding width_of
even_width n even low high =
    even_cases n even low high
    (λ e. rw e (refl, omega arith, omega arith)) (λ e. rw e (refl, omega arith, omega arith)) (λ e. rw e (refl, omega arith, omega arith))
    (λ e. rw e (refl, omega arith, omega arith)) (λ e. rw e (refl, omega arith, omega arith))

pub invariant_of-result : goal.invariant_of-result
invariant_of-result c =
    let w = even_width c.args.bits c.requires.2 c.requires.0 c.requires.1 in
    record { known = (c.requires.0, c.requires.1); wide = w.0; narrow = (w.1, w.2) }
