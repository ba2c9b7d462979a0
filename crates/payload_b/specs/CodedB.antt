-- Payload B on the wire (clause 7.5, document 01 "Payload B on the wire"): from a frame and a scheme to the points of as many OFDM symbols as it needs.
-- Assumes nothing.
use Rattle.std.specs.Prelude.{cond, List, [], ◌++◌, ℕ, zero, suc, ◌+◌, ◌-◌, ◌*◌, ◌/◌, eqb, ℤ, length, take, drop, replicate}
use Rattle.bch.specs.Codes.{Code, code1, code2, encoded}
use Rattle.points.specs.declared.Point.{Point}
use Rattle.bits.specs.Bytes.{bits_of}
use Rattle.payload.specs.Scrambler.{start, scrambled_from}
use Rattle.symbols.specs.Grids.{placed}
use Rattle.symbols.specs.Schemes.{sum_of, repeated, mapped}

-- ---- modes: 0 is uncoded, 1 uses (508,472), 2 uses (504,432)

-- how many bytes of the frame go into one block; uncoded, each byte is a block of its own
abbrev pub block_bytes : ℕ → ℕ
block_bytes mode = cond (eqb mode 0) 1 (cond (eqb mode 1) 59 54)

-- the bits sent for a block
abbrev pub block_bits : ℕ → ℕ
block_bits mode = cond (eqb mode 0) 8 (cond (eqb mode 1) 508 504)

-- the code of a coded mode
abbrev pub code_b : ℕ → Code
code_b mode = cond (eqb mode 1) code1 code2

-- what is sent for the bits of a block
unfoldable pub block_of : ℕ → List ℕ → List ℕ
block_of mode bits = cond (eqb mode 0) bits (encoded (code_b mode) bits)

-- and of m blocks, one behind the other
unfoldable pub blocks_of : ℕ → ℕ → List ℕ → List ℕ
blocks_of mode zero bits = []
blocks_of mode (suc m) bits = block_of mode (take (8 * block_bytes mode) bits) ++ blocks_of mode m (drop (8 * block_bytes mode) bits)

-- the blocks of a frame of n bytes
abbrev pub blocks_in : ℕ → ℕ → ℕ
blocks_in mode n = n / block_bytes mode

-- the bits sent for bytes, the fill left out: the scrambler runs over them alone, from this register, before BCH
unfoldable pub coded_from : ℕ → ℕ → List ℕ → List ℕ
coded_from mode register bytes = blocks_of mode (blocks_in mode (length bytes)) (scrambled_from register (bits_of bytes))

-- those of a frame
abbrev pub coded_b : ℕ → List ℕ → List ℕ
coded_b mode frame = coded_from mode start frame

-- ---- OFDM symbols

-- how many bits the blocks of a frame of n bytes have, the fill left out
abbrev pub bits_for : ℕ → ℕ → ℕ
bits_for mode n = block_bits mode * blocks_in mode n

-- OFDM symbols needed: coded bits divided by the scheme's sum, rounded up
abbrev pub symbols_for : ℕ → ℕ → List ℕ → ℕ
symbols_for mode n scheme = (bits_for mode n + (sum_of scheme - 1)) / sum_of scheme

-- the last OFDM symbol is filled up with zero bits, unscrambled
abbrev pub filled_up : ℕ → List ℕ → List ℕ
filled_up n bits = bits ++ replicate (n - length bits) 0

-- the points sent for a frame
unfoldable pub points_b : ℕ → List ℕ → List ℕ → List Point
points_b mode frame scheme =
    let m = symbols_for mode (length frame) scheme in
    mapped (repeated m scheme) (filled_up (sum_of scheme * m) (coded_b mode frame))

unfoldable pub sent_b : (Point → ℤ) → ℕ → List ℕ → List ℕ → List ℤ
sent_b level mode frame scheme = placed level (symbols_for mode (length frame) scheme) (points_b mode frame scheme)
