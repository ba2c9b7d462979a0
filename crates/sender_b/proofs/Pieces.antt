-- Pieces of a frame of Payload B, which are whole blocks: what is sent for one, and what the code makes of it.
-- Assumes nothing.
use mathlib.Core.Path.{◌≡◌, refl, sym, ap, ap₂, subst, ◌∙◌}
use mathlib.Core.Logic.{◌≢◌}
use mathlib.Core.Bool.{Bool, cond}
use mathlib.Core.List.{List, [], ◌∷◌, ◌++◌}
use Prim.Native.Nat.{ℕ, zero, suc, ◌+◌, ◌-◌, ◌*◌, ◌%◌, ◌≤◌}
use native.Mathlib.Decide.{ℕ_discrete}
use native.Mathlib.Nat.{mul-one, mul-add, mul-sub, div-one, mul-mod_right}
use native.Mathlib.Omega.{arith}
use borrow.Author.Tests.{ne_eqb}
use lib.ListN.{length, take, drop, replicate, length-drop, length-replicate, take-append-drop}
use lib.Seq.{take_at, length-take-le}
use Rattle.bits.specs.Bytes.{bits_of}
use Rattle.bits.proofs.Digits.{bits_take}
use Rattle.bits.proofs.Octets.{length-bits_of}
use Rattle.bch.specs.Codes.{named, encoded}
use Rattle.bch.specs.Promise.{Encoding}
use Rattle.bch.proofs.Codewords.{encoded_front}
use Rattle.packed.specs.Packed.{bits512, padded}
use Rattle.packed.proofs.Walks.{length_512, bits_512}
use Rattle.payload.specs.Scrambler.{scrambled_from}
use Rattle.payload.proofs.Scrambling.{length_scrambled}
use Rattle.payload_b.specs.CodedB.{block_bytes, block_bits, code_b, blocks_of, blocks_in, coded_from, bits_for}
use Rattle.payload_b.proofs.Plans.{whole_blocks}
use Rattle.payload_b.proofs.Blocks.{block_bytes_few, block_bits_few, coded, block_uncoded, block_coded, block_of_long}
use Rattle.payload_b.proofs.Blockwise.{blocks_in_lem, coded_one}
use Rattle.packed.proofs.Amid.{zeros}
use Rattle.encoder.specs.Promise.{EncodingPacked, information_by}
use Rattle.sender_b.specs.Steps.{Piece, coded_piece}
use Rattle.sender_b.proofs.Zeros.{drop-zeros}
use Rattle.answers.specs.Answers.{Written}

-- ---- numbers of bytes that are whole blocks

module _ (mode : ℕ) where
  pub whole_more : (m n : ℕ) → m % block_bytes mode ≡ 0 → n % block_bytes mode ≡ 0 → (m + n) % block_bytes mode ≡ 0
  whole_more m n em en =
      let e : m + n ≡ block_bytes mode * (blocks_in mode m + blocks_in mode n)
      = ap₂ ◌+◌ (whole_blocks mode m em) (whole_blocks mode n en) ∙ sym (mul-add (block_bytes mode) (blocks_in mode m) (blocks_in mode n)) in
      ap (λ (k : ℕ). k % block_bytes mode) e ∙ mul-mod_right (block_bytes mode) (blocks_in mode m + blocks_in mode n)

  pub whole_left : (m n : ℕ) → m % block_bytes mode ≡ 0 → n % block_bytes mode ≡ 0 → (m - n) % block_bytes mode ≡ 0
  whole_left m n em en =
      let e : m - n ≡ block_bytes mode * (blocks_in mode m - blocks_in mode n)
      = ap₂ ◌-◌ (whole_blocks mode m em) (whole_blocks mode n en) ∙ sym (mul-sub (block_bytes mode) (blocks_in mode m) (blocks_in mode n)) in
      ap (λ (k : ℕ). k % block_bytes mode) e ∙ mul-mod_right (block_bytes mode) (blocks_in mode m - blocks_in mode n)

-- ---- pieces

-- those of a coded mode
piece_of_coded : (mode : ℕ) → mode ≢ 0 → (bits : List ℕ) → coded_piece mode bits ≡ padded (encoded (code_b mode) (take (8 * block_bytes mode) bits))
piece_of_coded mode not bits =
    ap (λ (t : Bool). cond t bits (padded (encoded (code_b mode) (take (8 * block_bytes mode) bits)))) (ne_eqb mode 0 not)

-- uncoded, blocks are the bits as they are
blocks_uncoded : (m : ℕ) (bits : List ℕ) → length bits ≡ 8 * m → blocks_of 0 m bits ≡ bits
unfolding blocks_of
blocks_uncoded zero [] e = refl
blocks_uncoded zero (b ∷ bits) e = absurd (omega arith)
blocks_uncoded (suc m) bits e =
    ap₂ ◌++◌ (block_uncoded (take 8 bits)) (blocks_uncoded m (drop 8 bits) (length-drop 8 bits ∙ omega arith)) ∙ take-append-drop 8 bits

module _ (mode register : ℕ) (g : List ℕ) where
  abbrev bits : List ℕ
  bits = scrambled_from register (bits_of g)

  bits_long : length bits ≡ 8 * length g
  bits_long = length_scrambled register (bits_of g) ∙ length-bits_of g

  piece_bits : mode ≡ 0 → coded_from mode register g ≡ bits
  unfolding coded_from
  piece_bits z = rw (z, div-one (length g)) (blocks_uncoded (length g) bits bits_long)

  -- what is sent for one is what the code makes of it
  pub piece_is : (mode ≢ 0 → length g ≡ block_bytes mode) → {made : List ℕ} → made ≡ padded bits → coded_piece mode made ≡ padded (coded_from mode register g)
  piece_is one {made} e = by (ℕ_discrete mode 0)
    where
      by : Dec (mode ≡ 0) → coded_piece mode made ≡ padded (coded_from mode register g)
      by (yes z) = rw z e ∙ ap padded (sym (piece_bits z))
      by (no not) =
          let long : length bits ≡ 8 * block_bytes mode = bits_long ∙ ap (λ (n : ℕ). 8 * n) (one not) in
          let front : take (8 * block_bytes mode) made ≡ bits
          = ap (take (8 * block_bytes mode)) e ∙ take_at bits (replicate (512 - length bits) 0) (8 * block_bytes mode) long in
          piece_of_coded mode not made ∙ ap (λ (v : List ℕ). padded (encoded (code_b mode) v)) front
          ∙ ap padded (sym (block_coded mode not bits) ∙ sym (coded_one mode register g (one not)))

-- so many bits are sent for one
module _ (mode n : ℕ) where
  pub few_uncoded : mode ≡ 0 → 8 * n ≡ bits_for mode n
  few_uncoded z = rw (z, div-one n) refl

  pub few_coded : n ≡ block_bytes mode → block_bits mode ≡ bits_for mode n
  few_coded e = rw (e ∙ sym (mul-one (block_bytes mode)), blocks_in_lem mode 1) (omega arith)

pub few_bits : {mode left n : ℕ} → Piece mode left n → bits_for mode n ≤ 512
few_bits {mode} {left} {n} p = by (ℕ_discrete mode 0)
  where
    by : Dec (mode ≡ 0) → bits_for mode n ≤ 512
    by (yes z) = omega (arith, few_uncoded mode n z, p.few)
    by (no not) = omega (arith, few_coded mode n (p.one not), block_bits_few mode)

-- ---- packed

module _ (mode : ℕ) (words : List ℕ) where
  -- the codeword, with zeros behind
  pub packed_coded : mode ≤ 2 → mode ≢ 0 → (answer : Written) (after : List ℕ) → EncodingPacked mode words answer after
      → bits512 after ≡ coded_piece mode (bits512 words)
  packed_coded h not answer after encoding =
      let c = coded mode h not in
      let word = take (8 * block_bytes mode) (bits512 words) in
      let long : length word ≡ 8 * block_bytes mode
      = length-take-le (8 * block_bytes mode) (bits512 words) (omega (arith, length_512 words, block_bytes_few mode)) in
      let size : length (encoded (code_b mode) word) ≡ block_bits mode = ap length (sym (block_coded mode not word)) ∙ block_of_long mode word long in
      let z : 512 - (code_b mode).n ≡ 512 - length (encoded (code_b mode) word) = omega (arith, c.whole) in
      let k : information_by (named mode) ≡ 8 * block_bytes mode = ap information_by c.code ∙ c.information in
      let e = encoded_front mode c.code word (zeros 512) answer (bits512 after) (bits_take (8 * block_bytes mode) (bits512 words) (bits_512 words))
      (long ∙ sym c.information) (omega (arith, c.whole, block_bits_few mode, length-replicate {A = ℕ} 512 0))
      (subst (λ (n : ℕ). Encoding mode (take n (bits512 words)) (zeros 512) answer (bits512 after)) k encoding) in
      e ∙ ap (λ (v : List ℕ). encoded (code_b mode) word ++ v) (drop-zeros (code_b mode).n 512 ∙ ap zeros z) ∙ sym (piece_of_coded mode not (bits512 words))
