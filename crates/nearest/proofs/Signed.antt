-- Levels as the machine holds them, and the numbers of bits one by one: what the proofs of the code share.
-- Assumes nothing.
use mathlib.Core.Path.{◌≡◌}
use Prim.Native.Nat.{ℕ, ◌+◌, ◌%◌, ◌≤◌, ◌<◌}
use native.Mathlib.Decide.{dec_le}
use native.Mathlib.Omega.{arith}
use lib.IntN.{ℤ}
use lib.Signed.{mag}
use mir.Syntax.{w16}
use mir.Val.{to_z, of_z}
use mir.ValLaws.{to_z-of_z}

-- the machine holds a number of sixteen bits as it is
pub held : (x : ℤ) → mag x < 32768 → to_z w16 (of_z w16 x) ≡ x
held x h = to_z-of_z w16 x (record { sfits = h })

-- ---- what follows from each even number from 2 to 10 follows from them all, and so of the odd ones

or_larger : {A : Type 0} (k n : ℕ) → n % 2 ≡ k % 2 → k ≤ n → (n ≡ k → A) → (k + 2 ≤ n → A) → A
or_larger {A} k n e h here larger = by (dec_le (k + 2) n)
  where
    by : Dec (k + 2 ≤ n) → A
    by (yes l) = larger l
    by (no l) = here (omega arith)

pub even_cases : {A : Type 0} (n : ℕ) → n % 2 ≡ 0 → 2 ≤ n → n ≤ 10 → (n ≡ 2 → A) → (n ≡ 4 → A) → (n ≡ 6 → A) → (n ≡ 8 → A) → (n ≡ 10 → A) → A
even_cases n e h m two four six eight ten =
    or_larger 2 n e h two (λ l. or_larger 4 n e l four (λ l. or_larger 6 n e l six (λ l. or_larger 8 n e l eight (λ l. ten (omega arith)))))

pub odd_cases : {A : Type 0} (n : ℕ) → n % 2 ≡ 1 → 2 ≤ n → n ≤ 10 → (n ≡ 3 → A) → (n ≡ 5 → A) → (n ≡ 7 → A) → (n ≡ 9 → A) → A
odd_cases n e h m three five seven nine =
    or_larger 3 n e (omega arith) three (λ l. or_larger 5 n e l five (λ l. or_larger 7 n e l seven (λ l. nine (omega arith))))
