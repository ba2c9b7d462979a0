-- Bits in machine words: 64 binary digits in each, the highest first. Eight machine words hold 512 bits.
-- Assumes nothing.
use Rattle.std.specs.Prelude.{List, [], ◌∷◌, ◌++◌, ℕ, zero, suc, ◌-◌, length, get_or, take, drop, replicate}
use Rattle.bits.specs.Words.{digits}
use Rattle.bits.specs.Bytes.{as_number}

-- the bits of n machine words from the i-th on, one after the other
unfoldable pub bits_from : ℕ → ℕ → List ℕ → List ℕ
bits_from zero i words = []
bits_from (suc n) i words = digits 64 (get_or words i 0) ++ bits_from n (suc i) words

-- the bits of eight
unfoldable pub bits512 : List ℕ → List ℕ
bits512 words = bits_from 8 0 words

-- machine words of bits, 64 to each, n of them; `bits_from` reads them back
unfoldable pub words_of : ℕ → List ℕ → List ℕ
words_of zero bits = []
words_of (suc n) bits = as_number (take 64 bits) ∷ words_of n (drop 64 bits)

-- a word stands first, with zeros behind it up to so many bits; up to 512
abbrev pub padded_to : ℕ → List ℕ → List ℕ
padded_to n word = word ++ replicate (n - length word) 0

abbrev pub padded : List ℕ → List ℕ
padded word = padded_to 512 word
