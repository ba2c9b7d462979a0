-- The scrambler (clause 6.2, and document 01's reading of Figure 2: "Scrambler and frame check"): polynomial 1 + x^14 + x^15.
-- A register is a number of 15 binary digits, stage 15 the highest.
-- Assumes nothing.
use Rattle.std.specs.Prelude.{List, [], ◌∷◌, ℕ, zero, suc, ◌+◌, ◌*◌, ◌/◌, ◌%◌, ◌^◌}
use Rattle.std.specs.Int.Bits.{bit_xor}

-- stages 15 down to 1 at the start of each frame
abbrev pub start : ℕ
start = 0b010010011011000

-- stage 14 xor stage 15
unfoldable pub formed : ℕ → ℕ
formed register = bit_xor (register / 2 ^ 13 % 2) (register / 2 ^ 14 % 2)

-- it is shifted into stage 1
unfoldable pub shifted : ℕ → ℕ
shifted register = (register * 2 + formed register) % 2 ^ 15

-- it is added to the data bit
unfoldable pub scrambled_from : ℕ → List ℕ → List ℕ
scrambled_from register [] = []
scrambled_from register (b ∷ bs) = bit_xor (formed register) b ∷ scrambled_from (shifted register) bs

unfoldable pub scrambled : List ℕ → List ℕ
scrambled bs = scrambled_from start bs

-- the register after n bits
unfoldable pub register_after : ℕ → ℕ → ℕ
register_after zero register = register
register_after (suc n) register = register_after n (shifted register)

-- n registers, the first this one, each 128 bits after the one before
unfoldable pub registers_from : ℕ → ℕ → List ℕ
registers_from zero register = []
registers_from (suc n) register = register ∷ registers_from n (register_after 128 register)
