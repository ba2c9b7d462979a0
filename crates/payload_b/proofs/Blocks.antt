-- The blocks of Payload B: their lengths, and what is sent for one.
-- Assumes nothing.
use mathlib.Core.Path.{◌≡◌, refl, sym, ap, ◌∙◌}
use mathlib.Core.Logic.{◌≢◌}
use mathlib.Core.Bool.{Bool, true, false, cond}
use mathlib.Core.List.{List, [], ◌++◌, append-nil}
use Prim.Native.Nat.{ℕ, zero, suc, ◌+◌, ◌*◌, ◌≤◌, ◌<◌}
use native.Mathlib.Omega.{arith}
use borrow.Author.Tests.{ne_eqb}
use lib.Dec.{eqb}
use lib.ListN.{length, take, length-append}
use lib.Seq.{take_at}
use Rattle.bits.specs.Words.{Bits, digits}
use Rattle.bits.specs.Remainders.{remainder}
use Rattle.bits.proofs.Digits.{bits_append, length_digits, digits_bits}
use Rattle.bch.specs.Codes.{code1, code2, known, named, encoded, Codeword}
use Rattle.bch.proofs.Mendings.{encoding_codeword}
use Rattle.payload_b.specs.CodedB.{block_bytes, block_bits, code_b, block_of}
use Rattle.payload_b.specs.PromiseB.{mends_b}

-- ---- lengths

-- what holds of the bytes and bits of each mode's block
by_mode : (P : ℕ → ℕ → Type 0) → P 1 8 → P 59 508 → P 54 504 → (mode : ℕ) → P (block_bytes mode) (block_bits mode)
by_mode P p q r mode = go (eqb mode 0) (eqb mode 1)
  where
    go : (a b : Bool) → P (cond a 1 (cond b 59 54)) (cond a 8 (cond b 508 504))
    go true b = p
    go false true = q
    go false false = r

pub block_bytes_pos : (mode : ℕ) → 0 < block_bytes mode
block_bytes_pos = by_mode (λ k n. 0 < k) (omega arith) (omega arith) (omega arith)

pub block_bytes_few : (mode : ℕ) → block_bytes mode ≤ 59
block_bytes_few = by_mode (λ k n. k ≤ 59) (omega arith) (omega arith) (omega arith)

pub block_bits_least : (mode : ℕ) → 8 ≤ block_bits mode
block_bits_least = by_mode (λ k n. 8 ≤ n) (omega arith) (omega arith) (omega arith)

pub block_bits_pos : (mode : ℕ) → 0 < block_bits mode
block_bits_pos mode = omega (arith, block_bits_least mode)

pub block_bits_few : (mode : ℕ) → block_bits mode ≤ 508
block_bits_few = by_mode (λ k n. n ≤ 508) (omega arith) (omega arith) (omega arith)

-- the information is no longer than the block
pub block_whole : (mode : ℕ) → 8 * block_bytes mode ≤ block_bits mode
block_whole = by_mode (λ k n. 8 * k ≤ n) (omega arith) (omega arith) (omega arith)

-- no more bits can be mended in a block than it has bytes
pub mends_few : (mode : ℕ) → mends_b mode ≤ block_bytes mode
mends_few mode = by (eqb mode 0) (eqb mode 1)
  where
    by : (a b : Bool) → cond a 0 (cond b code1 code2).t ≤ cond a 1 (cond b 59 54)
    by true b = omega arith
    by false true = omega arith
    by false false = omega arith

-- ---- the modes

-- a coded mode is the number of its code
pub record Coded (mode : ℕ) : Type 0 where
  pub code : named mode ≡ known (code_b mode)
  pub information : (code_b mode).k ≡ 8 * block_bytes mode
  pub whole : (code_b mode).n ≡ block_bits mode
  pub mends : (code_b mode).t ≡ mends_b mode
  pub few : mends_b mode ≤ 8

pub coded : (mode : ℕ) → mode ≤ 2 → mode ≢ 0 → Coded mode
coded zero h n = absurd (n refl)
coded (suc zero) h n = record { code = refl; information = refl; whole = refl; mends = refl; few = omega arith }
coded (suc (suc zero)) h n = record { code = refl; information = refl; whole = refl; mends = refl; few = omega arith }
coded (suc (suc (suc mode))) h n = absurd (omega arith)

-- ---- what is sent for a block

-- the bits as they are
pub block_uncoded : (m : List ℕ) → block_of 0 m ≡ m
unfolding block_of
block_uncoded m = refl

-- or their codeword
pub block_coded : (mode : ℕ) → mode ≢ 0 → (m : List ℕ) → block_of mode m ≡ encoded (code_b mode) m
unfolding block_of
block_coded mode n m = rw (ne_eqb mode 0 n) refl

pub block_codeword : (mode : ℕ) → mode ≤ 2 → mode ≢ 0 → (m : List ℕ) → Bits m → length m ≡ 8 * block_bytes mode → Codeword (code_b mode) (block_of mode m)
block_codeword mode h n m bits long =
    let c = coded mode h n in
    rw (block_coded mode n m) (encoding_codeword mode c.code m bits (long ∙ sym c.information))

-- in every mode the bits, and so many more behind them
block_form : (mode : ℕ) (m : List ℕ) → (more : List ℕ) × (block_of mode m ≡ m ++ more) × (8 * block_bytes mode + length more ≡ block_bits mode) × Bits more
unfolding block_of encoded
block_form mode m = go (eqb mode 0) (eqb mode 1)
  where
    go : (a b : Bool) → (more : List ℕ) × (cond a m (encoded (cond b code1 code2) m) ≡ m ++ more)
        × (8 * cond a 1 (cond b 59 54) + length more ≡ cond a 8 (cond b 508 504)) × Bits more
    go true b = ([], sym (append-nil m), refl, tt)
    go false true = let r = remainder 36 code1.generator m in (digits 36 r, refl, omega (arith, length_digits 36 r), digits_bits 36 r)
    go false false = let r = remainder 72 code2.generator m in (digits 72 r, refl, omega (arith, length_digits 72 r), digits_bits 72 r)

module _ (mode : ℕ) (m : List ℕ) (long : length m ≡ 8 * block_bytes mode) where
  pub block_of_long : length (block_of mode m) ≡ block_bits mode
  block_of_long = let b = block_form mode m in ap length b.1 ∙ length-append m b.0 ∙ omega (arith, b.2)

  -- what is sent tells the bits
  pub block_front : take (8 * block_bytes mode) (block_of mode m) ≡ m
  block_front = let b = block_form mode m in ap (take (8 * block_bytes mode)) b.1 ∙ take_at m b.0 (8 * block_bytes mode) long

pub block_of_bits : (mode : ℕ) (m : List ℕ) → Bits m → Bits (block_of mode m)
block_of_bits mode m bits = let b = block_form mode m in rw b.1 (bits_append m b.0 bits b.3)
