-- A register that takes in a word by a polynomial g of degree r: from zero it ends with the remainder of the word times x^r by g (document 01, "The three
-- codes"). The frame check has this register too. The word's bits are coefficients, highest power first. A polynomial is the number of its binary digits.
-- Assumes nothing.
use Rattle.std.specs.Prelude.{List, [], ◌∷◌, ℕ, ◌*◌, ◌/◌, ◌%◌, ◌^◌}
use Rattle.std.specs.Int.Bits.{bit_xor}

-- a polynomial of degree at most r, with x^r taken out by g
unfoldable pub reduced : ℕ → ℕ → ℕ → ℕ
reduced r g v = bit_xor (v / 2 ^ r % 2 * g) v

-- the register takes in one bit
unfoldable pub step : ℕ → ℕ → ℕ → ℕ → ℕ
step r g register b = reduced r g (bit_xor (b * 2 ^ r) (register * 2))

-- and bit after bit
unfoldable pub remainder_from : ℕ → ℕ → ℕ → List ℕ → ℕ
remainder_from r g register [] = register
remainder_from r g register (b ∷ bs) = remainder_from r g (step r g register b) bs

-- from zero
unfoldable pub remainder : ℕ → ℕ → List ℕ → ℕ
remainder r g bs = remainder_from r g 0 bs
