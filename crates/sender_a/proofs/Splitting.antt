-- A word split into two parts as long as each other.
-- Assumes nothing.
use mathlib.Core.Path.{◌≡◌, ◌∙◌}
use mathlib.Core.List.{List}
use Prim.Native.Nat.{ℕ, ◌*◌}
use native.Mathlib.Omega.{arith}
use lib.ListN.{length, take, drop, length-drop}
use lib.Seq.{take_all, length-take-le}
use Rattle.bits.specs.Words.{Bits}
use Rattle.bits.proofs.Digits.{bits_take, bits_drop}

module _ (n : ℕ) (word : List ℕ) (long : length word ≡ 2 * n) where
  pub first_long : length (take n word) ≡ n
  first_long = length-take-le n word (omega arith)

  pub second_long : length (drop n word) ≡ n
  second_long = length-drop n word ∙ omega arith

  -- what is left behind the first part is the second
  pub second_whole : take n (drop n word) ≡ drop n word
  second_whole = take_all n (drop n word) (omega (arith, second_long))

  -- each part of a word of bits is one
  pub first_part : Bits word → Bits (take n word) × (length (take n word) ≡ n)
  first_part bits = (bits_take n word bits, first_long)

  pub second_part : Bits word → Bits (take n (drop n word)) × (length (take n (drop n word)) ≡ n)
  second_part bits = rw second_whole (bits_drop n word bits, second_long)
