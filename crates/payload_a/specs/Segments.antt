-- Protected fields and segments (clause 7.4.5, Table 6): 784 bits in four segments of 196, two to an OFDM symbol.
-- Assumes nothing.
use Rattle.std.specs.Prelude.{cond, List, [], ◌∷◌, ◌++◌, ℕ, ◌+◌, ◌*◌, leb, length, take, drop, replicate}
use Rattle.bits.specs.Words.{differ}

-- the bits of a segment, of a row, which is a coded block and two segments, and of an OFDM symbol
abbrev pub segment_bits : ℕ
segment_bits = 196

abbrev pub row_bits : ℕ
row_bits = 2 * segment_bits

abbrev pub symbol_bits : ℕ
symbol_bits = 420

-- 1111111110, 1111111111 and 11111111
abbrev pub field1 : List ℕ
field1 = replicate 9 1 ++ (0 ∷ [])

abbrev pub field2 : List ℕ
field2 = replicate 10 1

abbrev pub field3 : List ℕ
field3 = replicate 8 1

-- what a list holds once bits are put there, from index `at` on: nothing is put where there is no room
abbrev pub put_at : List ℕ → ℕ → List ℕ → List ℕ
put_at bits at out = cond (leb (at + length bits) (length out)) (take at out ++ bits ++ drop (at + length bits) out) out

-- the bits of one OFDM symbol with two segments
unfoldable pub symbol_of : List ℕ → List ℕ → List ℕ
symbol_of s u = field1 ++ s ++ field2 ++ u ++ field3

-- the segment i of 784 bits
unfoldable pub segment : ℕ → List ℕ → List ℕ
segment i bits = take segment_bits (drop (segment_bits * i) bits)

-- 840 bits from 784
unfoldable pub framed : List ℕ → List ℕ
framed bits = symbol_of (segment 0 bits) (segment 1 bits) ++ symbol_of (segment 2 bits) (segment 3 bits)

-- and back: what the segments of one OFDM symbol carry, taken from the middle of its 420 bits
unfoldable pub carried_by : List ℕ → List ℕ
carried_by symbol = take segment_bits (drop 10 symbol) ++ take segment_bits (drop 216 symbol)

-- and its protected bits
unfoldable pub protected_in : List ℕ → List ℕ
protected_in symbol = take 10 symbol ++ take 10 (drop 206 symbol) ++ take 8 (drop 412 symbol)

-- the 784 bits that 840 carry, and the 56 protected ones
unfoldable pub carried : List ℕ → List ℕ
carried bits = carried_by (take symbol_bits bits) ++ carried_by (drop symbol_bits bits)

unfoldable pub protected : List ℕ → List ℕ
protected bits = protected_in (take symbol_bits bits) ++ protected_in (drop symbol_bits bits)

-- the protected bits as they are sent
unfoldable pub fields : List ℕ
fields = field1 ++ field2 ++ field3 ++ field1 ++ field2 ++ field3

-- in how many places the protected bits of 840 bits received differ from those sent, and in how many they may (document 02, item 3)
abbrev pub protected_differing : List ℕ → ℕ
protected_differing bits = differ fields (protected bits)

abbrev pub most_differing : ℕ
most_differing = 12
