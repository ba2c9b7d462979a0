-- A frame of Payload B block by block: how many bits are sent for it, what for one block more, and that they say which frame it was.
-- Assumes nothing.
use mathlib.Core.Path.{◌≡◌, refl, sym, ap, ap₂, ◌∙◌}
use mathlib.Core.Logic.{◌≢◌}
use mathlib.Core.List.{List, [], ◌∷◌, ◌++◌, append-nil, append_assoc}
use Prim.Native.Nat.{ℕ, zero, suc, ◌+◌, ◌*◌, ◌%◌, ◌≤◌, ◌<◌}
use native.Mathlib.Decide.{ℕ_discrete}
use native.Mathlib.Omega.{arith}
use native.Mathlib.Nat.{mul-zero, mul-one, mul-add, zero-add, suc-add, mul-div_cancel_left, zero-div}
use lib.ListN.{length, take, drop, length-append, length-drop, take-append-drop}
use lib.Seq.{take_all, take_at, drop_at, drop-drop, take-append-le, drop-append-le, length-take-le}
use Rattle.bits.specs.Words.{Bits}
use Rattle.bits.specs.Bytes.{bits_of}
use Rattle.bits.proofs.Digits.{bits_take, bits_drop, bits_append}
use Rattle.bits.proofs.Octets.{length-bits_of, bits_bits_of, bits_of-append, bits_of_inj}
use Rattle.bch.specs.Codes.{Codeword}
use Rattle.payload.specs.Scrambler.{start, scrambled_from, register_after}
use Rattle.payload.specs.Wire.{block_at}
use Rattle.payload.proofs.Scrambling.{length_scrambled, bits_scrambled, scrambled_append, scrambled_inj}
use Rattle.payload.proofs.Wires as wires
use Rattle.payload_b.specs.CodedB.{block_bytes, block_bits, code_b, block_of, blocks_of, blocks_in, coded_from, coded_b, bits_for}
use Rattle.payload_b.specs.PromiseB.{wire_from}
use Rattle.payload_b.proofs.Plans.{whole_blocks}
use Rattle.payload_b.proofs.Blocks.{block_bytes_pos, coded, block_codeword, block_of_long, block_front, block_of_bits}

-- ---- blocks

module _ (mode : ℕ) where
  -- the bits of a block before it is coded
  abbrev size : ℕ
  size = 8 * block_bytes mode

  -- blocks of bits are bits
  bits_blocks : (m : ℕ) (bits : List ℕ) → Bits bits → Bits (blocks_of mode m bits)
  unfolding blocks_of
  bits_blocks zero bits h = tt
  bits_blocks (suc m) bits h =
      bits_append (block_of mode (take size bits)) (blocks_of mode m (drop size bits)) (block_of_bits mode (take size bits) (bits_take size bits h))
      (bits_blocks m (drop size bits) (bits_drop size bits h))

  -- the first block, and those behind it
  module _ (m : ℕ) (bits : List ℕ) (long : length bits ≡ size * suc m) where
    front_long : length (take size bits) ≡ size
    front_long = length-take-le size bits (omega arith)

    rest_long : length (drop size bits) ≡ size * m
    rest_long = length-drop size bits ∙ omega arith

    first_is : take (block_bits mode) (blocks_of mode (suc m) bits) ≡ block_of mode (take size bits)
    unfolding blocks_of
    first_is = take_at (block_of mode (take size bits)) (blocks_of mode m (drop size bits)) (block_bits mode) (block_of_long mode (take size bits) front_long)

    others_are : drop (block_bits mode) (blocks_of mode (suc m) bits) ≡ blocks_of mode m (drop size bits)
    unfolding blocks_of
    others_are = drop_at (block_of mode (take size bits)) (blocks_of mode m (drop size bits)) (block_bits mode) (block_of_long mode (take size bits) front_long)

  -- blocks, and blocks behind them
  blocks_append : (m k : ℕ) (bits more : List ℕ) → length bits ≡ size * m → blocks_of mode (m + k) (bits ++ more) ≡ blocks_of mode m bits ++ blocks_of mode k more
  unfolding blocks_of
  blocks_append zero k [] more e = ap (λ (n : ℕ). blocks_of mode n more) (zero-add k)
  blocks_append zero k (b ∷ bits) more e = absurd (omega arith)
  blocks_append (suc m) k bits more e =
      let low : size ≤ length bits = omega arith in
      ap (λ (n : ℕ). blocks_of mode n (bits ++ more)) (suc-add m k)
      ∙ ap₂ ◌++◌ (ap (block_of mode) (take-append-le size bits more low))
      (ap (blocks_of mode (m + k)) (drop-append-le size bits more low) ∙ blocks_append m k (drop size bits) more (rest_long m bits e))
      ∙ sym (append_assoc (block_of mode (take size bits)) (blocks_of mode m (drop size bits)) (blocks_of mode k more))

  blocks_one : (bits : List ℕ) → length bits ≡ size → blocks_of mode 1 bits ≡ block_of mode bits
  unfolding blocks_of
  blocks_one bits e = append-nil (block_of mode (take size bits)) ∙ ap (block_of mode) (take_all size bits (omega arith))

  length_blocks : (m : ℕ) (bits : List ℕ) → length bits ≡ size * m → length (blocks_of mode m bits) ≡ block_bits mode * m
  unfolding blocks_of
  length_blocks zero bits e = sym (mul-zero (block_bits mode))
  length_blocks (suc m) bits e =
      length-append (block_of mode (take size bits)) (blocks_of mode m (drop size bits))
      ∙ omega (arith, block_of_long mode (take size bits) (front_long m bits e), length_blocks m (drop size bits) (rest_long m bits e))

  -- blocks tell the bits
  blocks_told : (m : ℕ) (x y : List ℕ) → length x ≡ size * m → length y ≡ size * m → blocks_of mode m x ≡ blocks_of mode m y → x ≡ y
  blocks_told zero [] [] lx ly e = refl
  blocks_told zero [] (b ∷ y) lx ly e = absurd (omega arith)
  blocks_told zero (a ∷ x) y lx ly e = absurd (omega arith)
  blocks_told (suc m) x y lx ly e =
      let first : take size x ≡ take size y
      = sym (block_front mode (take size x) (front_long m x lx)) ∙ ap (take size) (sym (first_is m x lx) ∙ ap (take (block_bits mode)) e ∙ first_is m y ly)
      ∙ block_front mode (take size y) (front_long m y ly) in
      let rest : drop size x ≡ drop size y
      = blocks_told m (drop size x) (drop size y) (rest_long m x lx) (rest_long m y ly)
      (sym (others_are m x lx) ∙ ap (drop (block_bits mode)) e ∙ others_are m y ly) in
      sym (take-append-drop size x) ∙ ap₂ ◌++◌ first rest ∙ take-append-drop size y

  -- each is a codeword, in a coded mode
  block_at_lem : mode ≤ 2 → mode ≢ 0 → (m : ℕ) (bits : List ℕ) → Bits bits → length bits ≡ size * m → (b : ℕ) → b < m
      → Codeword (code_b mode) (block_at (block_bits mode) b (blocks_of mode m bits))
  block_at_lem known not zero bits h e b l = absurd (omega arith)
  block_at_lem known not (suc m) bits h e zero l =
      rw (mul-zero (block_bits mode), first_is m bits e) (block_codeword mode known not (take size bits) (bits_take size bits h) (front_long m bits e))
  block_at_lem known not (suc m) bits h e (suc b) l =
      let n = block_bits mode in
      let on : n * suc b ≡ n + n * b = omega arith in
      rw (on, ← drop-drop (n * b) n (blocks_of mode (suc m) bits), others_are m bits e)
      (block_at_lem known not m (drop size bits) (bits_drop size bits h) (rest_long m bits e) b (omega arith))

-- ---- what is sent for the bytes of one block

module _ (mode register : ℕ) (g : List ℕ) (lg : length g ≡ block_bytes mode) where
  scrambled_long : length (scrambled_from register (bits_of g)) ≡ 8 * block_bytes mode
  scrambled_long = length_scrambled register (bits_of g) ∙ length-bits_of g ∙ ap (λ (n : ℕ). 8 * n) lg

  pub length_block : length (block_of mode (scrambled_from register (bits_of g))) ≡ block_bits mode
  length_block = block_of_long mode (scrambled_from register (bits_of g)) scrambled_long

pub bits_block : (mode register : ℕ) (g : List ℕ) → Bits (block_of mode (scrambled_from register (bits_of g)))
bits_block mode register g = block_of_bits mode (scrambled_from register (bits_of g)) (bits_scrambled register (bits_of g) (bits_bits_of g))

-- ---- frames

pub blocks_in_lem : (mode m : ℕ) → blocks_in mode (block_bytes mode * m) ≡ m
blocks_in_lem mode m = mul-div_cancel_left m (block_bytes_pos mode)

-- ---- what is sent for bytes, from any register

module _ (mode register₀ : ℕ) where
  -- their bits before they are coded
  bytes_bits : (frame : List ℕ) → Bits (scrambled_from register₀ (bits_of frame))
  bytes_bits frame = bits_scrambled register₀ (bits_of frame) (bits_bits_of frame)

  pub bits_coded : (frame : List ℕ) → Bits (coded_from mode register₀ frame)
  unfolding coded_from
  bits_coded frame = bits_blocks mode (blocks_in mode (length frame)) (scrambled_from register₀ (bits_of frame)) (bytes_bits frame)

  -- for no bytes nothing is sent
  pub coded_none : coded_from mode register₀ [] ≡ []
  unfolding coded_from blocks_of
  coded_none = rw (zero-div (block_bytes mode)) refl

  module _ (m : ℕ) (frame : List ℕ) (long : length frame ≡ block_bytes mode * m) where
    frame_long : length (scrambled_from register₀ (bits_of frame)) ≡ 8 * block_bytes mode * m
    frame_long = length_scrambled register₀ (bits_of frame) ∙ length-bits_of frame ∙ omega arith

    frame_blocks : blocks_in mode (length frame) ≡ m
    frame_blocks = ap (blocks_in mode) long ∙ blocks_in_lem mode m

    coded_blocks : coded_from mode register₀ frame ≡ blocks_of mode m (scrambled_from register₀ (bits_of frame))
    unfolding coded_from
    coded_blocks = ap (λ (k : ℕ). blocks_of mode k (scrambled_from register₀ (bits_of frame))) frame_blocks

    pub length_coded : length (coded_from mode register₀ frame) ≡ block_bits mode * m
    length_coded = ap length coded_blocks ∙ length_blocks mode m (scrambled_from register₀ (bits_of frame)) frame_long

    -- with blocks behind them: the scrambler runs on
    pub coded_append : (register : ℕ) → register ≡ register_after (8 * length frame) register₀ → (k : ℕ) (g : List ℕ) → length g ≡ block_bytes mode * k
        → coded_from mode register₀ (frame ++ g) ≡ coded_from mode register₀ frame ++ coded_from mode register g
    unfolding coded_from
    coded_append register carried k g lg =
        let more : blocks_in mode (length (frame ++ g)) ≡ m + k
        = ap (blocks_in mode) (length-append frame g ∙ ap₂ ◌+◌ long lg ∙ sym (mul-add (block_bytes mode) m k)) ∙ blocks_in_lem mode (m + k) in
        let last : blocks_in mode (length g) ≡ k = ap (blocks_in mode) lg ∙ blocks_in_lem mode k in
        rw (frame_blocks, last, more, bits_of-append frame g, scrambled_append register₀ (bits_of frame) (bits_of g), length-bits_of frame, ← carried)
        (blocks_append mode m k (scrambled_from register₀ (bits_of frame)) (scrambled_from register (bits_of g)) frame_long)

-- for the bytes of one block
pub coded_one : (mode register : ℕ) (g : List ℕ) → length g ≡ block_bytes mode → coded_from mode register g ≡ block_of mode (scrambled_from register (bits_of g))
coded_one mode register g lg =
    coded_blocks mode register 1 g (lg ∙ sym (mul-one (block_bytes mode))) ∙ blocks_one mode (scrambled_from register (bits_of g)) (scrambled_long mode register g lg)

-- a frame is sent in as many bits as its blocks need
pub length-coded_b : (mode : ℕ) (frame : List ℕ) → length frame % block_bytes mode ≡ 0 → length (coded_b mode frame) ≡ bits_for mode (length frame)
length-coded_b mode frame whole = length_coded mode start (blocks_in mode (length frame)) frame (whole_blocks mode (length frame) whole)

-- ---- what is known of the wire

module _ (mode register n : ℕ) (known : mode ≤ 2) (whole : n % block_bytes mode ≡ 0) where
  -- each block of a coded mode is a codeword
  pub codeword_b : mode ≢ 0 → (f : List ℕ) → length f ≡ n → (b : ℕ) → b < blocks_in mode n
      → Codeword (code_b mode) (block_at (block_bits mode) b (coded_from mode register f))
  codeword_b not f e b l =
      let m = blocks_in mode n in
      let long = e ∙ whole_blocks mode n whole in
      rw (coded_blocks mode register m f long)
      (block_at_lem mode known not m (scrambled_from register (bits_of f)) (bytes_bits mode register f) (frame_long mode register m f long) b l)

  -- and what is sent says which bytes they were
  pub lawful_b : wires.Lawful (wire_from mode register n)
  lawful_b =
      let m = blocks_in mode n in
      let w = whole_blocks mode n whole in
      record {
        blocks = by (ℕ_discrete mode 0);
        long = λ f e. length_coded mode register m f (e ∙ w);
        told =
            λ f g ef eg bf bg e. bits_of_inj f g bf bg (scrambled_inj register (bits_of f) (bits_of g)
            (blocks_told mode m (scrambled_from register (bits_of f)) (scrambled_from register (bits_of g)) (frame_long mode register m f (ef ∙ w))
            (frame_long mode register m g (eg ∙ w))
            (sym (coded_blocks mode register m f (ef ∙ w)) ∙ e ∙ coded_blocks mode register m g (eg ∙ w))));
      }
    where
      by : Dec (mode ≡ 0) → wires.Blocks (wire_from mode register n)
      by (yes z) = wires.plain (rw z refl)
      by (no not) = let c = coded mode known not in wires.coded mode (code_b mode) c.code (sym c.whole) (sym c.mends) (codeword_b not)
