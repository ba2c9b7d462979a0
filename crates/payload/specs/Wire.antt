-- What was sent for a frame, as far as receiving it is stated by that: Payload A and Payload B alike. A frame is sent as blocks of bits, one behind the
-- other, in each of which so many may differ. What differs, in all and in the worst block, is the quality of the line (document 02, item 8).
-- Assumes nothing.
use Rattle.std.specs.Prelude.{◌≡◌, List, ℕ, zero, suc, ◌*◌, ◌≤◌, ◌<◌, max, length, take, drop}
use Rattle.bits.specs.Words.{differ}
use Rattle.bits.specs.Bytes.{Bytes}
use Rattle.bch.specs.Codes.{Code, Within}

-- how many bytes a frame has, how many blocks are sent for it, of how many bits, how many of them may differ, and the bits that are sent
pub record Wire : Type 0 where
  pub bytes : ℕ
  pub blocks : ℕ
  pub size : ℕ
  pub mends : ℕ
  pub sent : List ℕ → List ℕ

-- the block b of bits, where each has so many
abbrev pub block_at : ℕ → ℕ → List ℕ → List ℕ
block_at size b bits = take size (drop (size * b) bits)

-- the count of the block b: in how many places the one sent differs from the one received
abbrev pub count_at : ℕ → ℕ → List ℕ → List ℕ → ℕ
count_at size b sent bits = differ (block_at size b sent) (block_at size b bits)

-- the largest count of m blocks; 0 where there is none
unfoldable pub worst_of : ℕ → ℕ → List ℕ → List ℕ → ℕ
worst_of size zero sent bits = 0
worst_of size (suc m) sent bits = max (worst_of size m sent bits) (count_at size m sent bits)

-- in how many places the bits received differ from those that sending a frame again gives: in all, and in the worst block
abbrev pub total : Wire → List ℕ → List ℕ → ℕ
total w bits frame = differ (w.sent frame) bits

abbrev pub worst : Wire → List ℕ → List ℕ → ℕ
worst w bits frame = worst_of w.size w.blocks (w.sent frame) bits

-- a frame for which each block sent differs from the one received in no more places than may differ
pub record Fits (w : Wire) (bits frame : List ℕ) : Type 0 where
  pub long : length frame ≡ w.bytes
  pub bytes : Bytes frame
  pub near : (b : ℕ) → b < w.blocks → count_at w.size b (w.sent frame) bits ≤ w.mends

-- a codeword lies within t of the block b
abbrev pub Mendable : Code → ℕ → List ℕ → Type 0
Mendable c b bits = (v : List ℕ) × Within c (block_at c.n b bits) v

-- of so many blocks, this one has no codeword within t, and every block before it has one
pub record FirstHopeless (c : Code) (blocks : ℕ) (bits : List ℕ) (block : ℕ) : Type 0 where
  pub one : block < blocks
  pub none : Mendable c block bits → ⊥
  pub before : (b : ℕ) → b < block → Mendable c b bits
