-- Machine words of bits, and the bits of machine words: each way leads back.
-- Assumes nothing.
use mathlib.Core.Path.{◌≡◌, refl, sym, ap, ap₂, ◌∙◌}
use mathlib.Core.List.{List, ◌∷◌, ◌++◌}
use Prim.Native.Nat.{ℕ, zero, suc, ◌*◌}
use native.Mathlib.Omega.{arith}
use lib.Dec.{lit<}
use lib.ListN.{length, get_or, take, drop, length-drop, length-take, take-append-drop}
use lib.Seq.{take_all, length-take-le}
use Rattle.bits.specs.Words.{Bits, digits}
use Rattle.bits.specs.Bytes.{as_number}
use Rattle.bits.proofs.Digits.{bits_take, bits_drop}
use Rattle.bits.proofs.Numbers.{digits_number, number_low}
use Rattle.packed.specs.Packed.{bits_from, bits512, words_of}
use Rattle.packed.proofs.Walks.{length_512, bits_512}
use Rattle.packed.proofs.Once.{Wide, words_once}

pub words_long : (n : ℕ) (bits : List ℕ) → length (words_of n bits) ≡ n
unfolding words_of
words_long zero bits = refl
words_long (suc n) bits = ap suc (words_long n (drop 64 bits))

pub words_wide : (n : ℕ) (bits : List ℕ) → Bits bits → Wide (words_of n bits)
unfolding words_of
words_wide zero bits h i = lit< tt
words_wide (suc n) bits h zero = number_low 64 (take 64 bits) (omega (arith, length-take 64 bits))
words_wide (suc n) bits h (suc i) = words_wide n (drop 64 bits) (bits_drop 64 bits h) i

-- the bits behind the first machine word
from_cons : (n i x : ℕ) (ws : List ℕ) → bits_from n (suc i) (x ∷ ws) ≡ bits_from n i ws
unfolding bits_from
from_cons zero i x ws = refl
from_cons (suc n) i x ws = ap (λ (l : List ℕ). digits 64 (get_or ws i 0) ++ l) (from_cons n (suc i) x ws)

bits_words_from : (n : ℕ) (bits : List ℕ) → length bits ≡ 64 * n → Bits bits → bits_from n 0 (words_of n bits) ≡ bits
unfolding words_of bits_from
bits_words_from zero bits long h = take_all 0 bits (omega arith)
bits_words_from (suc n) bits long h =
    let x = as_number (take 64 bits) in
    let rest = drop 64 bits in
    let full : length (take 64 bits) ≡ 64 = length-take-le 64 bits (omega arith) in
    let front : digits 64 x ≡ take 64 bits = ap (λ (m : ℕ). digits m x) (sym full) ∙ digits_number (take 64 bits) (bits_take 64 bits h) in
    ap₂ ◌++◌ front (from_cons n 0 x (words_of n rest) ∙ bits_words_from n rest (length-drop 64 bits ∙ omega arith) (bits_drop 64 bits h))
    ∙ take-append-drop 64 bits

-- ---- eight of them, and 512 bits

pub bits_words : (bits : List ℕ) → length bits ≡ 512 → Bits bits → bits512 (words_of 8 bits) ≡ bits
unfolding bits512
bits_words = bits_words_from 8

pub words_bits : (ws : List ℕ) → length ws ≡ 8 → Wide ws → words_of 8 (bits512 ws) ≡ ws
words_bits ws long wide =
    let bits = bits512 ws in
    let h : Bits bits = bits_512 ws in
    words_once (words_of 8 bits) ws (words_long 8 bits) long (words_wide 8 bits h) wide (bits_words bits (length_512 ws) h)
