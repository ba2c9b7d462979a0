-- The 784 bits sent for a frame of Payload A: its information, of a coded frame the two codewords; its two blocks, and the laws of the wire.
-- Assumes nothing.
use mathlib.Core.Path.{◌≡◌, refl, sym, ap, ap₂, ◌∙◌}
use mathlib.Core.List.{List, ◌++◌, append-nil}
use Prim.Native.Nat.{ℕ, zero, suc, ◌+◌, ◌*◌, ◌≤◌, ◌<◌}
use native.Mathlib.Omega.{arith}
use borrow.Author.Tests.{ne_eqb}
use lib.ListN.{length, take, drop, drop_of_length-le, length-append, length-drop, take-append-drop}
use lib.Seq.{take_at, take_all, drop_at, length-take-le}
use Rattle.bits.specs.Words.{Bits, digits, differ}
use Rattle.bch.specs.Codes.{code3, encoded, Codeword}
use Rattle.bits.proofs.Digits.{bits_take, bits_drop, bits_append, digits_bits, length_digits}
use Rattle.bits.proofs.Distances.{differ-zero}
use Rattle.bch.proofs.Mendings.{encoding_codeword}
use Rattle.bits.specs.Bytes.{Bytes, bits_of}
use Rattle.payload.specs.Scrambler.{start, scrambled}
use Rattle.payload_a.specs.Check.{check_of, with_check}
use Rattle.payload_a.specs.CodedA.{bytes_a, information, blocks_a, coded_a}
use Rattle.payload.specs.Wire.{block_at, Fits}
use Rattle.payload.proofs.Wires.{parts_same, Lawful, plain, coded}
use Rattle.bch.proofs.Codewords.{information_of}
use Rattle.payload_a.specs.Segments.{row_bits}
use Rattle.payload_a.specs.PromiseA.{wire_a}
use Rattle.bits.proofs.Octets.{length-bits_of, bits_bits_of, bits_of_inj}
use Rattle.payload_a.proofs.Checks.{take-with_check}
use Rattle.payload.proofs.Scrambling.{length_scrambled, bits_scrambled, scrambled_inj}

-- ---- a frame and its check, scrambled

-- a frame with 32 digits behind it, whatever they say
module _ (frame : List ℕ) (x : ℕ) where
  pub bits_behind : Bits (scrambled (bits_of frame ++ digits 32 x))
  unfolding scrambled
  bits_behind = bits_scrambled start (bits_of frame ++ digits 32 x) (bits_append (bits_of frame) (digits 32 x) (bits_bits_of frame) (digits_bits 32 x))

  pub length_behind : length (scrambled (bits_of frame ++ digits 32 x)) ≡ 8 * length frame + 32
  unfolding scrambled
  length_behind =
      length_scrambled start (bits_of frame ++ digits 32 x) ∙ length-append (bits_of frame) (digits 32 x)
      ∙ ap₂ ◌+◌ (length-bits_of frame) (length_digits 32 x)

pub bits_information : (frame : List ℕ) → Bits (information frame)
unfolding with_check
bits_information frame = bits_behind frame (check_of (bits_of frame))

pub length-information : (frame : List ℕ) → length (information frame) ≡ 8 * length frame + 32
unfolding with_check
length-information frame = length_behind frame (check_of (bits_of frame))

-- ---- blocks of 784 bits

pub first_block : (a b : List ℕ) → length a ≡ row_bits → block_at row_bits 0 (a ++ b) ≡ a
first_block a b e = take_at a b row_bits e

pub second_block : (a b : List ℕ) → length a ≡ row_bits → length b ≡ row_bits → block_at row_bits 1 (a ++ b) ≡ b
second_block a b e f = ap (take row_bits) (drop_at a b row_bits e) ∙ take_all row_bits b (omega arith)

-- what is written to a list as long as a block fills it
pub covered : (v out : List ℕ) → length out ≡ row_bits → v ++ drop row_bits out ≡ v
covered v out l = ap (λ (rest : List ℕ). v ++ rest) (drop_of_length-le out {i = row_bits} (omega arith)) ∙ append-nil v

-- what holds of both blocks
pub each_block : (P : ℕ → Type 0) → P 0 → P 1 → (block : ℕ) → block < 2 → P block
each_block P p q zero l = p
each_block P p q (suc zero) l = q
each_block P p q (suc (suc block)) l = absurd (omega arith)

-- 784 bits none of which differs, block by block
pub none_differs : (v w : List ℕ) → length v ≡ 784 → length w ≡ 784 → ((b : ℕ) → b < 2 → differ (block_at row_bits b v) (block_at row_bits b w) ≤ 0) → v ≡ w
none_differs v w lv lw near = parts_same row_bits 2 v w lv lw (λ b l. let z = near b l in differ-zero (block_at row_bits b v) (block_at row_bits b w) (omega arith))

-- ---- 496 bits as two codewords, whatever they say

module _ (u : List ℕ) (long : length u ≡ 496) where
  front_long : length (take 248 u) ≡ 248
  front_long = length-take-le 248 u (omega arith)

  back_long : length (drop 248 u) ≡ 248
  back_long = length-drop 248 u ∙ omega arith

  module _ (bits : Bits u) where
    front_codeword : Codeword code3 (encoded code3 (take 248 u))
    front_codeword = encoding_codeword 3 refl (take 248 u) (bits_take 248 u bits) front_long

    back_codeword : Codeword code3 (encoded code3 (drop 248 u))
    back_codeword = encoding_codeword 3 refl (drop 248 u) (bits_drop 248 u bits) back_long

    bits_blocks : Bits (blocks_a u)
    unfolding blocks_a
    bits_blocks = bits_append (encoded code3 (take 248 u)) (encoded code3 (drop 248 u)) front_codeword.bits back_codeword.bits

    pub length_blocks : length (blocks_a u) ≡ 784
    unfolding blocks_a
    length_blocks =
        length-append (encoded code3 (take 248 u)) (encoded code3 (drop 248 u)) ∙ ap₂ ◌+◌ front_codeword.long back_codeword.long

    front_block : block_at row_bits 0 (blocks_a u) ≡ encoded code3 (take 248 u)
    unfolding blocks_a
    front_block = first_block (encoded code3 (take 248 u)) (encoded code3 (drop 248 u)) front_codeword.long

    back_block : block_at row_bits 1 (blocks_a u) ≡ encoded code3 (drop 248 u)
    unfolding blocks_a
    back_block = second_block (encoded code3 (take 248 u)) (encoded code3 (drop 248 u)) front_codeword.long back_codeword.long

    pub blocks_codeword : (b : ℕ) → b < 2 → Codeword code3 (block_at row_bits b (blocks_a u))
    blocks_codeword = each_block (λ b. Codeword code3 (block_at row_bits b (blocks_a u))) (rw front_block front_codeword) (rw back_block back_codeword)

-- the codewords say which bits they were
pub blocks_inj : (u v : List ℕ) → length u ≡ 496 → length v ≡ 496 → Bits u → Bits v → blocks_a u ≡ blocks_a v → u ≡ v
blocks_inj u v lu lv bu bv e =
    let told : (x y : List ℕ) → length x ≡ 248 → length y ≡ 248 → encoded code3 x ≡ encoded code3 y → x ≡ y
    = λ x y lx ly s. sym (information_of code3 x lx) ∙ ap (take 248) s ∙ information_of code3 y ly in
    let front : take 248 u ≡ take 248 v
    = told _ _ (front_long u lu) (front_long v lv) (sym (front_block u lu bu) ∙ ap (block_at row_bits 0) e ∙ front_block v lv bv) in
    let back : drop 248 u ≡ drop 248 v
    = told _ _ (back_long u lu) (back_long v lv) (sym (back_block u lu bu) ∙ ap (block_at row_bits 1) e ∙ back_block v lv bv) in
    sym (take-append-drop 248 u) ∙ ap₂ ◌++◌ front back ∙ take-append-drop 248 v

-- ---- both modes

pub coded_uncoded : (frame : List ℕ) → coded_a 0 frame ≡ information frame
unfolding coded_a
coded_uncoded frame = refl

-- every mode but 0 is coded alike; the checks let 1 alone pass
pub coded_blocks : (m : ℕ) (frame : List ℕ) → coded_a (suc m) frame ≡ blocks_a (information frame)
unfolding coded_a
coded_blocks m frame = rw (ne_eqb (suc m) 0 (λ e. omega arith)) refl

-- the information of a coded frame has 496 bits
pub coded_information : (frame : List ℕ) → length frame ≡ 58 → length (information frame) ≡ 496
coded_information frame l = length-information frame ∙ ap (λ (n : ℕ). 8 * n + 32) l

pub bits_coded_a : (mode : ℕ) (frame : List ℕ) → mode ≤ 1 → length frame ≡ bytes_a mode → Bits (coded_a mode frame)
bits_coded_a zero frame h l = rw (coded_uncoded frame) (bits_information frame)
bits_coded_a (suc zero) frame h l = rw (coded_blocks 0 frame) (bits_blocks (information frame) (coded_information frame l) (bits_information frame))
bits_coded_a (suc (suc mode)) frame h l = absurd (omega arith)

length_coded : (m : ℕ) (frame : List ℕ) → length frame ≡ 58 → length (coded_a (suc m) frame) ≡ 784
length_coded m frame l = ap length (coded_blocks m frame) ∙ length_blocks (information frame) (coded_information frame l) (bits_information frame)

pub length-coded_a : (mode : ℕ) (frame : List ℕ) → mode ≤ 1 → length frame ≡ bytes_a mode → length (coded_a mode frame) ≡ 784
length-coded_a zero frame h l = ap length (coded_uncoded frame) ∙ length-information frame ∙ ap (λ (n : ℕ). 8 * n + 32) l
length-coded_a (suc zero) frame h l = length_coded 0 frame l
length-coded_a (suc (suc mode)) frame h l = absurd (omega arith)

-- ---- the blocks of a coded frame are the codewords

module _ (frame : List ℕ) (long : length frame ≡ 58) where
  pub first_long : length (take 248 (information frame)) ≡ 248
  first_long = front_long (information frame) (coded_information frame long)

  pub second_long : length (drop 248 (information frame)) ≡ 248
  second_long = back_long (information frame) (coded_information frame long)

module _ (m : ℕ) (frame : List ℕ) (long : length frame ≡ 58) where
  pub block_0 : block_at row_bits 0 (coded_a (suc m) frame) ≡ encoded code3 (take 248 (information frame))
  block_0 = ap (block_at row_bits 0) (coded_blocks m frame) ∙ front_block (information frame) (coded_information frame long) (bits_information frame)

  pub block_1 : block_at row_bits 1 (coded_a (suc m) frame) ≡ encoded code3 (drop 248 (information frame))
  block_1 = ap (block_at row_bits 1) (coded_blocks m frame) ∙ back_block (information frame) (coded_information frame long) (bits_information frame)

  pub block_codeword : (b : ℕ) → b < 2 → Codeword code3 (block_at row_bits b (coded_a (suc m) frame))
  block_codeword b l = rw (coded_blocks m frame) (blocks_codeword (information frame) (coded_information frame long) (bits_information frame) b l)

-- ---- what is sent says which frame it was

-- frames as long, with the same information
same_frame : (f g : List ℕ) → length f ≡ length g → Bytes f → Bytes g → information f ≡ information g → f ≡ g
unfolding scrambled
same_frame f g long bf bg e =
    let checks : with_check (bits_of f) ≡ with_check (bits_of g) = scrambled_inj start (with_check (bits_of f)) (with_check (bits_of g)) e in
    let bits : length (bits_of f) ≡ length (bits_of g) = length-bits_of f ∙ ap (λ (n : ℕ). 8 * n) long ∙ sym (length-bits_of g) in
    bits_of_inj f g bf bg (sym (take-with_check (bits_of f) (length (bits_of f)) refl) ∙ ap₂ take bits checks ∙ take-with_check (bits_of g) (length (bits_of g)) refl)

-- the laws of the wire
pub lawful_a : (mode : ℕ) → Lawful (wire_a mode)
lawful_a zero =
    record {
      blocks = plain refl;
      long = λ f l. length-coded_a 0 f (omega arith) l;
      told = λ f g lf lg bf bg e. same_frame f g (lf ∙ sym lg) bf bg (sym (coded_uncoded f) ∙ e ∙ coded_uncoded g);
    }
lawful_a (suc m) =
    rw (ne_eqb (suc m) 0 (λ e. omega arith)) (record {
      blocks = coded 3 code3 refl refl refl (λ f l b. block_codeword m f l b);
      long = λ f l. length_coded m f l;
      told = λ f g lf lg bf bg e. same_frame f g (lf ∙ sym lg) bf bg
          (blocks_inj (information f) (information g) (coded_information f lf) (coded_information g lg) (bits_information f) (bits_information g)
          (sym (coded_blocks m f) ∙ e ∙ coded_blocks m g));
    })

-- bits that an uncoded frame fits are its information
pub fits_uncoded : (w frame : List ℕ) → length w ≡ 784 → Fits (wire_a 0) w frame → information frame ≡ w
fits_uncoded w frame as_many fits =
    sym (coded_uncoded frame) ∙ none_differs (coded_a 0 frame) w (length-coded_a 0 frame (omega arith) fits.long) as_many fits.near
