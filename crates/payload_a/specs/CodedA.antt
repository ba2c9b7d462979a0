-- Payload A on the wire (clause 7.4, document 01 "Payload A on the wire"): from a frame to the points of two OFDM symbols.
-- Assumes nothing.
use Rattle.std.specs.Prelude.{cond, List, ◌++◌, ℕ, eqb, ℤ, take, drop}
use Rattle.bch.specs.Codes.{code3, encoded}
use Rattle.points.specs.declared.Point.{Point}
use Rattle.points.specs.Constellations.{level_i, level_q}
use Rattle.points.specs.Dqpsk.{turned}
use Rattle.bits.specs.Bytes.{bits_of}
use Rattle.payload.specs.Scrambler.{scrambled}
use Rattle.payload_a.specs.Check.{with_check}
use Rattle.payload_a.specs.Segments.{framed}
use Rattle.symbols.specs.Grids.{placed}

-- mode 0 is uncoded, 94 bytes; mode 1 is coded, 58 bytes
abbrev pub bytes_a : ℕ → ℕ
bytes_a mode = cond (eqb mode 0) 94 58

-- a frame and its check, scrambled: the scrambler runs over both, before BCH
abbrev pub information : List ℕ → List ℕ
information frame = scrambled (with_check (bits_of frame))

-- two blocks of 248, each coded to 392
unfoldable pub blocks_a : List ℕ → List ℕ
blocks_a bits = encoded code3 (take code3.k bits) ++ encoded code3 (drop code3.k bits)

-- the 784 bits sent for a frame, protected fields left out
unfoldable pub coded_a : ℕ → List ℕ → List ℕ
coded_a mode frame = cond (eqb mode 0) (information frame) (blocks_a (information frame))

-- the points sent for a frame: DQPSK is set once per frame
unfoldable pub points_a : ℕ → List ℕ → List Point
points_a mode frame = turned (framed (coded_a mode frame))

unfoldable pub sent_i : ℕ → List ℕ → List ℤ
sent_i mode frame = placed level_i 2 (points_a mode frame)

unfoldable pub sent_q : ℕ → List ℕ → List ℤ
sent_q mode frame = placed level_q 2 (points_a mode frame)
