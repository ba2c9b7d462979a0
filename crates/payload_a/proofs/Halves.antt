-- The frame check's register takes in eight bits by a table in two halves, whose entries a computed test holds to their rule.
-- Assumes nothing.
use mathlib.Core.Path.{◌≡◌, refl}
use mathlib.Core.Bool.{Bool}
use mathlib.Core.List.{List, ◌++◌, append-nil}
use Prim.Native.Nat.{ℕ, ◌*◌, ◌/◌, ◌%◌, ◌^◌, ◌<◌}
use native.Mathlib.Omega.{arith}
use lib.Bits.{bit_xor, xor_lt}
use lib.Dec.{T, eqb}
use lib.ListN.{get_or, replicate}
use Rattle.ground.proofs.Tests.{all, all_equal}
use Rattle.ground.proofs.Xors.{xor_assoc}
use Rattle.bits.specs.Words.{digits}
use Rattle.bits.specs.Remainders.{remainder_from, remainder}
use Rattle.bits.proofs.Digits.{length_digits}
use Rattle.bits.proofs.Falling.{apart, taken}
use Rattle.bch.proofs.Nibbles.{eight_digits}
use Rattle.payload_a.specs.Check.{check_polynomial}

-- what is left of four digits with k zeros behind
abbrev left : ℕ → ℕ → ℕ
left k i = remainder 32 check_polynomial (digits 4 i ++ replicate k 0)

-- a half of the table: what is left of the sixteen words of four bits with k zeros behind
pub record Half (k : ℕ) (table : List ℕ) : Type 0 where
  pub at : (i : ℕ) → i < 16 → get_or table i 0 ≡ left k i

-- the test of its entries
abbrev pub half_right : ℕ → List ℕ → Bool
half_right k table = all 16 (λ i. eqb (get_or table i 0) (left k i))

pub half : (k : ℕ) (table : List ℕ) → T (half_right k table) → Half k table
half k table test = record { at = all_equal 16 (λ i. get_or table i 0) (left k) test }

-- the register x takes in eight bits: the remainder of what falls out with those bits added, from the two halves
pub eight_taken : {highs lows : List ℕ} → Half 4 highs → Half 0 lows → (x b : ℕ) → x < 2 ^ 32 → b < 2 ^ 8
    → bit_xor (bit_xor (x * 256 % 2 ^ 32) (get_or highs (bit_xor (x / 2 ^ 24) b / 16) 0)) (get_or lows (bit_xor (x / 2 ^ 24) b % 16) 0)
    ≡ remainder_from 32 check_polynomial x (digits 8 b)
eight_taken high low x b hx hb =
    let g = check_polynomial in
    let i = bit_xor (x / 2 ^ 24) b in
    let eight : i < 256 = xor_lt 8 (x / 2 ^ 24) b (omega arith) hb in
    rw (
      high.at (i / 16) (omega arith),
      low.at (i % 16) (omega arith),
      taken 32 g 8 24 x b refl hx,
      eight_digits i,
      apart 32 g (digits 4 (i / 16)) (digits 4 (i % 16)),
      length_digits,
      append-nil,
    ) (xor_assoc (x * 256 % 2 ^ 32) _ _)
