-- Bits, and the binary digits of numbers as lists of bits.
-- Assumes nothing.
use mathlib.Core.Path.{◌≡◌, refl, sym, ap, ap₂, ◌∙◌}
use mathlib.Core.List.{List, [], ◌∷◌, ◌++◌}
use Prim.Native.Nat.{ℕ, zero, suc, ◌/◌, ◌%◌, ◌^◌, ◌≤◌, ◌<◌}
use native.Mathlib.Nat.{div-one, mod-lt, mod-eq_of_lt}
use native.Mathlib.Numerals.{one-add}
use native.Mathlib.Omega.{arith}
use lib.Bits.{bit_xor, xor_shr, xor_mod}
use borrow.Author.Tests.{le-ltb, ltb-false}
use lib.Dec.{ltb, lit<}
use lib.ListN.{length, get_or, take, drop}
use lib.Pow.{shr-shr}
use Rattle.ground.proofs.Firsts.{first, first_none}
use Rattle.bits.specs.Words.{Bits, first_bad, lowest, digits}

pub bits_at : (bs : List ℕ) → Bits bs → (i : ℕ) → get_or bs i 0 < 2
bits_at [] h i = lit< tt
bits_at (b ∷ bs) h zero = h.0
bits_at (b ∷ bs) h (suc i) = bits_at bs h.1 i

pub bits_from : (bs : List ℕ) → ((i : ℕ) → i < length bs → get_or bs i 0 < 2) → Bits bs
bits_from [] h = tt
bits_from (b ∷ bs) h = (h zero (omega arith), bits_from bs (λ i l. h (suc i) (omega arith)))

pub bits_take : (n : ℕ) (bs : List ℕ) → Bits bs → Bits (take n bs)
bits_take zero bs h = tt
bits_take (suc n) [] h = tt
bits_take (suc n) (b ∷ bs) h = (h.0, bits_take n bs h.1)

pub bits_drop : (n : ℕ) (bs : List ℕ) → Bits bs → Bits (drop n bs)
bits_drop zero bs h = h
bits_drop (suc n) [] h = tt
bits_drop (suc n) (b ∷ bs) h = bits_drop n bs h.1

pub bits_append : (v w : List ℕ) → Bits v → Bits w → Bits (v ++ w)
bits_append [] w hv hw = hw
bits_append (b ∷ v) w hv hw = (hv.0, bits_append v w hv.1 hw)

-- ---- where no element is bad, all are bits, and where all are bits none is bad

pub all_bits : (word : List ℕ) → length word ≤ first_bad word → Bits word
all_bits word h = bits_from word (λ i l. omega (arith, ltb-false 1 (get_or word i 0) ((first (ltb 1) 0 word).before i (omega arith))))

pub none_bad : (w : List ℕ) → Bits w → length w ≤ first_bad w
none_bad w h = omega (arith, first_none (ltb 1) 0 w (λ i _. le-ltb 1 (get_or w i 0) (omega (arith, bits_at w h i))))

-- ---- the digits of a number

pub length_digits : (r x : ℕ) → length (digits r x) ≡ r
unfolding digits
length_digits zero x = refl
length_digits (suc r) x = ap suc (length_digits r x)

-- the last digit apart
pub digits_last : (r x : ℕ) → digits (suc r) x ≡ digits r (x / 2) ++ (x % 2 ∷ [])
unfolding digits
digits_last zero x = ap (λ (n : ℕ). n % 2 ∷ []) (div-one x)
digits_last (suc r) x = ap₂ ◌∷◌ (ap (λ (n : ℕ). n % 2) (rw one-add at (sym (shr-shr x 1 r)))) (digits_last r x)

pub digits_bits : (r x : ℕ) → Bits (digits r x)
unfolding digits
digits_bits zero x = tt
digits_bits (suc r) x = (mod-lt (x / 2 ^ r) (lit< tt), digits_bits r x)

pub digit_xor : (r x y : ℕ) → bit_xor x y / 2 ^ r % 2 ≡ bit_xor (x / 2 ^ r % 2) (y / 2 ^ r % 2)
digit_xor r x y = ap (λ (z : ℕ). z % 2) (xor_shr x y r) ∙ xor_mod (x / 2 ^ r) (y / 2 ^ r) 1

-- ---- the lowest digit of each element

pub length-lowest : (w : List ℕ) → length (lowest w) ≡ length w
length-lowest [] = refl
length-lowest (b ∷ bs) = ap suc (length-lowest bs)

pub lowest_at : (w : List ℕ) (i : ℕ) → get_or (lowest w) i 0 ≡ get_or w i 0 % 2
lowest_at [] i = refl
lowest_at (b ∷ bs) zero = refl
lowest_at (b ∷ bs) (suc i) = lowest_at bs i

pub lowest_bits : (w : List ℕ) → Bits (lowest w)
lowest_bits [] = tt
lowest_bits (b ∷ bs) = (mod-lt b (lit< tt), lowest_bits bs)

pub lowest_same : (w : List ℕ) → Bits w → lowest w ≡ w
lowest_same [] h = refl
lowest_same (b ∷ bs) h = ap₂ ◌∷◌ (mod-eq_of_lt h.0) (lowest_same bs h.1)
