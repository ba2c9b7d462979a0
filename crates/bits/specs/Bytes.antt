-- Frames are bytes, most significant bit first (document 01, "Bits, lengths and grids").
-- Assumes nothing.
use Rattle.std.specs.Prelude.{cond, List, [], ◌∷◌, ◌++◌, ℕ, zero, suc, ◌+◌, ◌*◌, ◌%◌, ◌<◌, eqb, length, take, drop}
use Rattle.bits.specs.Words.{digits}

-- the values of a byte
abbrev pub byte_values : ℕ
byte_values = 256

-- every element is a byte
abbrev pub Bytes : List ℕ → Type 0
Bytes [] = Unit {0}
Bytes (x ∷ xs) = (x < byte_values) × Bytes xs

unfoldable pub bits_of : List ℕ → List ℕ
bits_of [] = []
bits_of (x ∷ xs) = digits 8 x ++ bits_of xs

-- the number that bits are the digits of, the first the highest; an element that is no bit counts as its lowest binary digit
unfoldable pub number_from : ℕ → List ℕ → ℕ
number_from x [] = x
number_from x (b ∷ bs) = number_from (2 * x + b % 2) bs

abbrev pub as_number : List ℕ → ℕ
as_number bits = number_from 0 bits

-- the first n bytes of bits, eight bits to each
unfoldable pub bytes_of : ℕ → List ℕ → List ℕ
bytes_of zero bits = []
bytes_of (suc n) bits = as_number (take 8 bits) ∷ bytes_of n (drop 8 bits)

-- what a list holds once the bits of a frame are put there, and once the bytes of bits are: nothing is put where the lengths do not agree
abbrev pub bits_put : List ℕ → List ℕ → List ℕ
bits_put frame out = cond (eqb (length out) (8 * length frame)) (bits_of frame) out

abbrev pub bytes_put : List ℕ → List ℕ → List ℕ
bytes_put bits out = cond (eqb (length bits) (8 * length out)) (bytes_of (length out) bits) out
