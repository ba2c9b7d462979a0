-- The square of the difference of two numbers.
-- Assumes nothing.
use mathlib.Core.Path.{◌≡◌}
use Prim.Native.Nat.{ℕ, ◌+◌, ◌-◌, ◌*◌, ◌≤◌}
use native.Mathlib.Decide.{dec_le}
use native.Mathlib.Omega.{arith}

pub gap_above : (a b d : ℕ) → b ≡ a + d → d * d + 2 * (a * b) ≡ a * a + b * b
gap_above a b d e = rw e (omega arith)

pub gap : (a b d : ℕ) → d ≡ (a - b) + (b - a) → d * d + 2 * (a * b) ≡ a * a + b * b
gap a b d e = by (dec_le a b)
  where
    by : Dec (a ≤ b) → d * d + 2 * (a * b) ≡ a * a + b * b
    by (yes h) = gap_above a b d (omega arith)
    by (no h) = let g : d * d + 2 * (b * a) ≡ b * b + a * a = gap_above b a d (omega arith) in omega (arith, g)
