-- An axis of a square with holes has as many levels as the table says, at each number of bits.
-- Assumes nothing.
use mathlib.Core.Path.{◌≡◌, refl}
use Prim.Native.Nat.{ℕ, ◌-◌, ◌*◌, ◌/◌, ◌%◌, ◌^◌, ◌≤◌}
use native.Mathlib.Omega.{arith}
use Rattle.nearest.specs.Axes.{width_of}
use Rattle.nearest.proofs.Signed.{odd_cases}
use Rattle.nearest.proofs.axis.Axis.of_odd.Goals as goal

odd_width : (n : ℕ) → n % 2 ≡ 1 → 2 ≤ n → n ≤ 10
    → (3 * 2 ^ ((n - 3) / 2) % 65536 ≡ width_of n) × (2 ≤ 3 * 2 ^ ((n - 3) / 2) % 65536) × (3 * 2 ^ ((n - 3) / 2) % 65536 ≤ 32)
unfolding width_of
odd_width n odd low high =
    odd_cases n odd low high
    (λ e. rw e (refl, omega arith, omega arith)) (λ e. rw e (refl, omega arith, omega arith)) (λ e. rw e (refl, omega arith, omega arith))
    (λ e. rw e (refl, omega arith, omega arith))

pub invariant_of-result : goal.invariant_of-result
invariant_of-result c =
    let low : 2 ≤ c.args.bits = omega arith in
    let w = odd_width c.args.bits c.requires.2 low c.requires.1 in
    record { known = (low, c.requires.1); wide = w.0; narrow = (w.1, w.2) }
