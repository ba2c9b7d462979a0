-- A table of remainders made from the generator: a 1 with zeros behind, four digits with zeros behind, and eight bits taken in by two parts of it.
-- Assumes nothing.
use mathlib.Core.Path.{◌≡◌, refl, sym, ap, ◌∙◌}
use mathlib.Core.List.{List, [], ◌∷◌, ◌++◌, append-nil}
use Prim.Native.Nat.{ℕ, zero, suc, ◌+◌, ◌*◌, ◌/◌, ◌%◌, ◌^◌, ◌<◌}
use native.Mathlib.Omega.{arith}
use native.Mathlib.Nat.{div-one, ne_of_lt, zero-mul, one-mul}
use lib.Bits.{bit_xor, xor_zero_l, xor_zero_r}
use lib.Dec.{lit<}
use lib.ListN.{length, replicate, length-replicate}
use Rattle.ground.proofs.Xors.{by_digit}
use Rattle.bits.specs.Words.{digits}
use Rattle.bits.specs.Remainders.{step, remainder_from, remainder}
use Rattle.bits.proofs.Digits.{length_digits}
use Rattle.bits.proofs.Remainders.{step_other, leading_zeros}
use Rattle.bch.specs.Registers.{chosen}
use Rattle.bch.proofs.Nibbles.{eight_digits}
use Rattle.bits.proofs.Falling.{apart, taken}

-- ---- a 1 with zeros behind

-- what a generator holds without its highest digit is the remainder of a 1
pub first_unit : (n : ℕ) → n < 2 ^ 192 → n ≡ remainder 192 (2 ^ 192 + n) (1 ∷ replicate 0 0)
unfolding remainder remainder_from
first_unit n h = sym (step_other 192 0 1 n h (lit< tt) (lit< tt) (ne_of_lt (lit< tt)))

next_zero : (g x k : ℕ) → remainder_from 192 g x (replicate (suc k) 0) ≡ step 192 g (remainder_from 192 g x (replicate k 0)) 0
unfolding remainder_from
next_zero g x zero = refl
next_zero g x (suc k) = next_zero g (step 192 g x 0) k

next_unit : (g k : ℕ) → remainder 192 g (1 ∷ replicate (suc k) 0) ≡ step 192 g (remainder 192 g (1 ∷ replicate k 0)) 0
unfolding remainder remainder_from
next_unit g k = next_zero g (step 192 g 0 1) k

-- where x stands at 8 in a part, one more zero behind gives what the next part begins with
pub next_part : (g x k : ℕ) → x ≡ remainder 192 g (digits 4 8 ++ replicate k 0) → step 192 g x 0 ≡ remainder 192 g (1 ∷ replicate (4 + k) 0)
unfolding digits
next_part g x k e =
    let s : 4 + k ≡ suc (suc (suc (suc k))) = omega arith in
    rw s (ap (λ (n : ℕ). step 192 g n 0) e ∙ sym (next_unit g (suc (suc (suc k)))))

-- ---- one run of bits behind another

module _ (r g : ℕ) where
  first_digit : (d : ℕ) (w : List ℕ) → remainder r g (d % 2 ∷ w) ≡ bit_xor (d % 2 * remainder r g (1 ∷ replicate (length w) 0)) (remainder r g w)
  first_digit d w =
      let u = remainder r g (1 ∷ replicate (length w) 0) in
      by_digit (λ (b : ℕ). remainder r g (b ∷ w) ≡ bit_xor (b * u) (remainder r g w))
      (rw (zero-mul u, xor_zero_l (remainder r g w)) (leading_zeros r g 1 w)) (rw (one-mul u) (apart r g (1 ∷ []) w)) d

  no_digit : (k : ℕ) → remainder r g (replicate k 0) ≡ 0
  unfolding remainder remainder_from
  no_digit k = ap (remainder r g) (sym (append-nil (replicate k 0))) ∙ leading_zeros r g k []

-- four digits with k zeros behind choose from a 1 with k and more zeros behind
pub four_chosen : (g i k a b c d : ℕ) → a ≡ remainder 192 g (1 ∷ replicate k 0) → b ≡ step 192 g a 0 → c ≡ step 192 g b 0 → d ≡ step 192 g c 0
    → chosen i a b c d ≡ remainder 192 g (digits 4 i ++ replicate k 0)
unfolding digits chosen
four_chosen g i k a b c d ea eb ec ed =
    let w0 : List ℕ = replicate k 0 in
    let w1 = i / 1 % 2 ∷ w0 in
    let w2 = i / 2 % 2 ∷ w1 in
    let w3 = i / 4 % 2 ∷ w2 in
    rw (ed, ec, eb, ea, ← (next_unit g k), ← (next_unit g (suc k)), ← (next_unit g (suc (suc k))))
    (rw (first_digit 192 g (i / 8) w3, first_digit 192 g (i / 4) w2, first_digit 192 g (i / 2) w1, first_digit 192 g (i / 1) w0)
    (rw (length-replicate {A = ℕ} k 0, div-one i, no_digit 192 g k, xor_zero_r)))

-- the register x takes in eight bits: the remainder of what falls out with those bits added, from two halves
pub eight_taken : (g x b i : ℕ) → x < 2 ^ 192 → i ≡ bit_xor (x / 2 ^ 184) b → remainder_from 192 g x (digits 8 b)
    ≡ bit_xor (x * 256 % 2 ^ 192) (bit_xor (remainder 192 g (digits 4 (i / 16) ++ replicate 4 0)) (remainder 192 g (digits 4 (i % 16) ++ replicate 0 0)))
eight_taken g x b i h e =
    rw (taken 192 g 8 184 x b refl h, ← e, eight_digits i, apart 192 g (digits 4 (i / 16)) (digits 4 (i % 16)), length_digits, append-nil)
