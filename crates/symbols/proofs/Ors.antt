-- Loops that gather by OR what is wrong: where the OR is 0, nothing was.
-- Assumes nothing.
use mathlib.Core.Path.{◌≡◌}
use Prim.Native.Nat.{ℕ, ◌+◌, ◌%◌, ◌<◌}
use native.Mathlib.Omega.{arith}
use lib.Bits.{bit_or, bit_xor, or_add_and, xor_add_and, and_le_l, and_le_r}
use lib.IntN.{ℤ, pos, negsuc, nat_abs}
use borrow.Author.Count.{below_more}
use Rattle.symbols.specs.Quick.{Passed}

pub or_none : (a b : ℕ) → bit_or a b ≡ 0 → (a ≡ 0) × (b ≡ 0)
or_none a b e =
    let both = or_add_and a b in
    (omega (arith, both, and_le_r a b), omega (arith, both, and_le_l a b))

pub xor_even : (a b : ℕ) → bit_xor a b % 2 ≡ 0 → a % 2 ≡ b % 2
xor_even a b e = omega (arith, xor_add_and a b)

pub xor_none : (a b : ℕ) → bit_xor a b ≡ 0 → a ≡ b
xor_none a b e = omega (arith, xor_add_and a b, and_le_l a b, and_le_r a b)

-- a turn: what x says of the indices below s, and y of s
pub or_more : (P : ℕ → Type 0) (x y s : ℕ) → (x ≡ 0 → (t : ℕ) → t < s → P t) → (y ≡ 0 → P s) → bit_or x y ≡ 0 → (t : ℕ) → t < s + 1 → P t
or_more P x y s before here e = let none = or_none x y e in below_more P s (before none.0) (here none.1)

-- only 0 has the size 0
pub size_zero : (x : ℤ) → nat_abs x ≡ 0 → x ≡ pos 0
size_zero (pos n) e = cc
size_zero (negsuc n) e = absurd (omega arith)

-- the bits and the sizes as the code has them are those of the entry and the levels
pub passed_as : {n m e f x y : ℕ} → n ≡ m → e ≡ x → f ≡ y → Passed n e f → Passed m x y
passed_as n e f p = rw (n, e, f) at p
