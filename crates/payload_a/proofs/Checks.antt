-- A message and its check: the check of bits, and the two told apart again.
-- Assumes nothing.
use mathlib.Core.Path.{◌≡◌, ap, ◌∙◌}
use mathlib.Core.List.{List}
use Prim.Native.Nat.{ℕ}
use lib.ListN.{length, take, drop}
use lib.Seq.{take_at, drop_at}
use Rattle.bits.specs.Words.{Bits, lowest, digits}
use Rattle.bits.proofs.Digits.{lowest_same}
use Rattle.payload_a.specs.Check.{check_of, with_check}

-- what is formed of bits is their check
pub check_read : (m : List ℕ) (x : ℕ) → Bits m → x ≡ check_of (lowest m) → x ≡ check_of m
check_read m x h e = e ∙ ap check_of (lowest_same m h)

-- message and check, told apart again
module _ (p : List ℕ) (n : ℕ) (l : length p ≡ n) where
  pub take-with_check : take n (with_check p) ≡ p
  unfolding with_check
  take-with_check = take_at p (digits 32 (check_of p)) n l

  pub drop-with_check : drop n (with_check p) ≡ digits 32 (check_of p)
  unfolding with_check
  drop-with_check = drop_at p (digits 32 (check_of p)) n l
