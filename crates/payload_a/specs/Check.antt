-- The frame check (clause 7.4.2, as request 6 of document 02 reads it): the register takes the message in by equation 10, highest power first. It starts at
-- all ones, and the check is what it holds at the end, inverted.
-- Assumes nothing.
use Rattle.std.specs.Prelude.{List, ◌++◌, ℕ}
use Rattle.std.specs.Int.Bits.{bit_xor}
use Rattle.bits.specs.Words.{digits}
use Rattle.bits.specs.Remainders.{remainder_from}

-- x^32+x^26+x^23+x^22+x^16+x^12+x^11+x^10+x^8+x^7+x^5+x^4+x^2+x+1
abbrev pub check_polynomial : ℕ
check_polynomial = 0x1_04c1_1db7

-- 32 ones: whatever they are added to is inverted
abbrev pub all_ones : ℕ
all_ones = 0xffff_ffff

unfoldable pub check_of : List ℕ → ℕ
check_of bits = bit_xor (remainder_from 32 check_polynomial all_ones bits) all_ones

-- a message and its check, highest power first
unfoldable pub with_check : List ℕ → List ℕ
with_check bits = bits ++ digits 32 (check_of bits)
