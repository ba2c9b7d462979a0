-- How the code holds a remainder: at the top of a register of 192 binary digits.
-- The promise of encode and decode rests on nothing here: it is what the jobs and what they stand on promise one another.
-- Assumes nothing.
use Rattle.std.specs.Prelude.{◌≡◌, List, [], ◌∷◌, ◌++◌, ℕ, zero, suc, ◌+◌, ◌*◌, ◌/◌, ◌%◌, ◌^◌, ◌<◌, get_or, replicate}
use Rattle.std.specs.Int.Bits.{bit_xor}
use Rattle.bits.specs.Words.{digits}
use Rattle.bits.specs.Remainders.{remainder}
use Rattle.bch.specs.declared.register.Register.{Register}

-- the number of a register's 192 digits
abbrev pub contents : Register → ℕ
contents r = (r.high * 2 ^ 64 + r.mid) * 2 ^ 64 + r.low

-- the m highest of 192 digits, the highest first
unfoldable pub tops : ℕ → ℕ → List ℕ
tops zero x = []
tops (suc m) x = x / 2 ^ 191 % 2 ∷ tops m (x * 2 % 2 ^ 192)

-- bits at the top of 192 digits
unfoldable pub at_top : List ℕ → ℕ
at_top [] = 0
at_top (b ∷ bs) = b * 2 ^ 191 + at_top bs / 2

-- the generator that a register holds without its highest digit
abbrev pub whole : Register → ℕ
whole g = 2 ^ 192 + contents g

-- the sum of those of four numbers whose digit in i is 1, that of a the lowest
unfoldable pub chosen : ℕ → ℕ → ℕ → ℕ → ℕ → ℕ
chosen i a b c d = bit_xor (i / 8 % 2 * d) (bit_xor (i / 4 % 2 * c) (bit_xor (i / 2 % 2 * b) (i % 2 * a)))

-- a part of a table: at each i below 16 the remainder by g of the four digits of i with k zeros behind
abbrev pub Sixteens : ℕ → ℕ → List Register → Type 0
Sixteens g k table = (i : ℕ) (z : Register) → i < 16 → contents (get_or table i z) ≡ remainder 192 g (digits 4 i ++ replicate k 0)

-- ---- a table of remainders: 64 entries of 192 digits, the high machine words of all of them first, then the middle ones, then the low ones

-- the entry i
abbrev pub entry_at : List ℕ → ℕ → ℕ
entry_at table i = (get_or table i 0 * 2 ^ 64 + get_or table (64 + i) 0) * 2 ^ 64 + get_or table (128 + i) 0

-- the first n entries for the generator g, at the top of 192 digits: at 16 j + i the remainder of the four digits of i with 4 j zeros behind
abbrev pub EntriesTo : ℕ → ℕ → List ℕ → Type 0
EntriesTo n g table = (e : ℕ) → e < n → entry_at table e ≡ remainder 192 g (digits 4 (e % 16) ++ replicate (4 * (e / 16)) 0)

-- the rule of a table for the generator g
pub record Remainders (g : ℕ) (table : List ℕ) : Type 0 where
  pub at : EntriesTo 64 g table
