-- A packed word taken into a register of 192 digits by a lent table (bch/specs/Registers): its bits are added at the top, and then zeros are taken in,
-- sixteen a step, or eight; and what is left of it.
-- Assumes nothing.
use Rattle.std.specs.Prelude.{List, ℕ, zero, suc, ◌+◌, ◌-◌, ◌*◌, ◌/◌, ◌%◌, ◌^◌, ◌<◌, min, get_or, take, drop}
use Rattle.std.specs.Int.Bits.{bit_xor}
use Rattle.packed.specs.Packed.{bits512}
use Rattle.bch.specs.Registers.{at_top, entry_at}

-- what a table has for the eight digits of z
unfoldable pub eight_by : List ℕ → ℕ → ℕ
eight_by table z = bit_xor (entry_at table (16 + z / 16)) (entry_at table (z % 16))

-- and for the sixteen digits of z
unfoldable pub sixteen_by : List ℕ → ℕ → ℕ
sixteen_by table z =
    bit_xor (bit_xor (entry_at table (48 + z / 4096)) (entry_at table (32 + z / 256 % 16))) (bit_xor (entry_at table (16 + z / 16 % 16)) (entry_at table (z % 16)))

-- the sum of the machine words of the same four entries, of those that begin at `at`; and that each is one
unfoldable pub four_by : List ℕ → ℕ → ℕ → ℕ
four_by table at z =
    bit_xor (bit_xor (get_or table (at + (48 + z / 4096)) 0) (get_or table (at + (32 + z / 256 % 16)) 0))
    (bit_xor (get_or table (at + (16 + z / 16 % 16)) 0) (get_or table (at + z % 16) 0))

pub record FourFit (table : List ℕ) (at z : ℕ) : Type 0 where
  pub first : get_or table (at + (48 + z / 4096)) 0 < 2 ^ 64
  pub second : get_or table (at + (32 + z / 256 % 16)) 0 < 2 ^ 64
  pub third : get_or table (at + (16 + z / 16 % 16)) 0 < 2 ^ 64
  pub fourth : get_or table (at + z % 16) 0 < 2 ^ 64

-- a register of 192 digits takes in eight zeros
unfoldable pub turn_by_8 : List ℕ → ℕ → ℕ
turn_by_8 table x = bit_xor (x * 2 ^ 8 % 2 ^ 192) (eight_by table (x / 2 ^ 184))

-- and sixteen zeros
unfoldable pub turn_by_16 : List ℕ → ℕ → ℕ
turn_by_16 table x = bit_xor (x * 2 ^ 16 % 2 ^ 192) (sixteen_by table (x / 2 ^ 176))

-- n bytes of zeros, two at a time
unfoldable pub turns_by : List ℕ → ℕ → ℕ → ℕ
turns_by table zero x = x
turns_by table (suc zero) x = turn_by_8 table x
turns_by table (suc (suc n)) x = turns_by table n (turn_by_16 table x)

-- the first n of the eight bytes of v: they are added at the top of the register, and as many zeros are taken in
unfoldable pub bytes_by : List ℕ → ℕ → ℕ → ℕ → ℕ
bytes_by table n x v = turns_by table n (bit_xor x (v / 2 ^ (64 - 8 * n) * 2 ^ (64 - 8 * n) % 2 ^ 64 * 2 ^ 128))

-- n machine words from the i-th on
unfoldable pub machine_words_by : List ℕ → ℕ → ℕ → ℕ → List ℕ → ℕ
machine_words_by table zero i x words = x
machine_words_by table (suc n) i x words = machine_words_by table n (suc i) (bytes_by table 8 x (get_or words i 0)) words

-- from zero, the first m bytes of eight machine words, at most 63
unfoldable pub taken_by : List ℕ → ℕ → List ℕ → ℕ
taken_by table m words = bytes_by table (min m 63 % 8) (machine_words_by table (min m 63 / 8) 0 0 words) (get_or words (min m 63 / 8) 0)

-- the whole bytes among the first k bits, and the 192 bits from the place k on added: what is left of a word of k bits and a remainder behind them
unfoldable pub leftover_by : List ℕ → ℕ → List ℕ → ℕ
leftover_by table k words = bit_xor (taken_by table (k / 8) words) (at_top (take 192 (drop k (bits512 words))))
