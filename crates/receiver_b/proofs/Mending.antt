-- A coded block of Payload B mended: what decode_packed promises of it, and its bytes, written from the bits that stand packed.
-- Assumes nothing.
use mathlib.Core.Path.{◌≡◌, sym, ap, ◌∙◌}
use mathlib.Core.Logic.{◌≢◌}
use mathlib.Core.List.{List}
use Prim.Native.Nat.{ℕ, ◌*◌, ◌≤◌}
use native.Mathlib.Omega.{arith}
use lib.ListN.{length, take, drop, replicate, length-replicate}
use lib.Seq.{take-append-le, length-take-le}
use Rattle.answers.specs.declared.DecodedWord.{DecodedWord}
use Rattle.bits.specs.Words.{Bits, differ}
use Rattle.bits.specs.Bytes.{Bytes, bits_of}
use Rattle.bits.proofs.Digits.{bits_take}
use Rattle.bch.specs.Codes.{named}
use Rattle.bch.specs.Promise.{Decoding, Mended}
use Rattle.bch.proofs.Codewords.{by_answer}
use Rattle.decoder.specs.Promise.{bits_by, DecodingPacked}
use Rattle.packed.specs.Packed.{bits_from, bits512}
use Rattle.packed.proofs.Walks.{length_512, bits_512}
use Rattle.payload.specs.Scrambler.{scrambled_from, register_after}
use Rattle.payload.proofs.Scrambling.{scrambled_again}
use Rattle.payload_b.specs.CodedB.{block_bytes, block_bits, code_b, block_of}
use Rattle.payload_b.specs.PromiseB.{mends_b}
use Rattle.payload_b.proofs.Blocks.{block_bits_few, block_bytes_few, block_whole, coded, block_coded}
use Rattle.receiver_b.specs.Steps.{NoneNear, Writes}
use Rattle.packed.proofs.Fronts.{same_front}
use Rattle.std.specs.Prelude.{Ok, Err}
use Rattle.answers.specs.Answers.{Decoded}

-- ---- what decode_packed promises

-- the first bits are the information of the codeword within t, from which so many places differ
pub record Informs (mode : ℕ) (block bits : List ℕ) (count : ℕ) : Type 0 where
  pub near : count ≤ mends_b mode
  pub counted : count ≡ differ (block_of mode (take (8 * block_bytes mode) bits)) block

-- there is one, or none
abbrev pub Mends : ℕ → List ℕ → List ℕ → Decoded → Type 0
Mends mode block bits (Ok count) = Informs mode block bits count
Mends mode block bits (Err why) = NoneNear mode block

module _ (mode : ℕ) (h : mode ≤ 2) (n : mode ≢ 0) where
  informs : {block out : List ℕ} {answer : DecodedWord} {after : List ℕ} (mended : Mended (code_b mode) block out answer after)
      → Informs mode block after (differ mended.codeword block)
  informs {block} {out} {answer} {after} mended =
      let c = coded mode h n in
      let k = 8 * block_bytes mode in
      let v = mended.codeword in
      let word = mended.within.codeword in
      let fits : k ≤ length v = omega (arith, word.long, c.whole, block_whole mode) in
      let front : take k after ≡ take k v = ap (take k) mended.left ∙ take-append-le k v (drop (code_b mode).n out) fits in
      let back : block_of mode (take k after) ≡ v
      = ap (block_of mode) front ∙ block_coded mode n (take k v) ∙ sym (rw c.information at word.made) in
      record { near = omega (arith, mended.within.near, c.mends); counted = rw back }

  mended_by : (block out : List ℕ) (answer : DecodedWord) (after : List ℕ) → Bits block → length block ≡ block_bits mode → length out ≡ 512
      → Decoding mode block out answer after → Mends mode block after answer.answer
  mended_by block out answer after bits long room =
      let c = coded mode h n in
      by_answer mode c.code block out answer after bits (long ∙ sym c.whole) (omega (arith, c.whole, block_bits_few mode))
      (Mends mode block after) informs (λ hopeless r. record { coded = n; none = hopeless.none })

-- the block is the first bits that are packed
pub mended_packed : (mode : ℕ) → mode ≢ 0 → mode ≤ 2 → (words : List ℕ) (answer : DecodedWord) (after : List ℕ) → DecodingPacked mode words answer after
    → Mends mode (take (block_bits mode) (bits512 words)) (bits512 after) answer.answer
mended_packed mode n h words answer after decoding =
    let c = coded mode h n in
    let k = block_bits mode in
    let size : bits_by (named mode) ≡ k = ap bits_by c.code ∙ c.whole in
    mended_by mode h n (take k (bits512 words)) (replicate 512 0) answer (bits512 after) (bits_take k (bits512 words) (bits_512 words))
    (length-take-le k (bits512 words) (omega (arith, length_512 words, block_bits_few mode))) (length-replicate {A = ℕ} 512 0)
    (rw size at decoding)

-- ---- its bytes

-- written scrambled, the information scrambles back
pub informs_writes : {mode : ℕ} {block : List ℕ} (words : List ℕ) {count : ℕ} → Informs mode block (bits512 words) count
    → (register after size : ℕ) (out : List ℕ) → size ≡ block_bytes mode → length out ≡ size → Bytes out
    → bits_of out ≡ scrambled_from register (take (8 * size) (bits_from size 0 words))
    → after ≡ register_after (8 * size) register → Writes mode register block count after out
unfolding bits512
informs_writes {mode} {block} words {count} i register after size out e long bytes written carried =
    let k = block_bytes mode in
    let front : take (8 * size) (bits_from size 0 words) ≡ take (8 * k) (bits512 words)
    = ap (λ (n : ℕ). take (8 * n) (bits_from n 0 words)) e ∙ same_front (8 * k) k 8 words (omega arith) (omega (arith, block_bytes_few mode)) in
    let back : scrambled_from register (bits_of out) ≡ take (8 * k) (bits512 words)
    = ap (scrambled_from register) written ∙ scrambled_again register (take (8 * size) (bits_from size 0 words)) ∙ front in
    record {
      long = long ∙ e;
      bytes = bytes;
      near = i.near;
      counted = rw back i.counted;
      carried = carried ∙ ap (λ (n : ℕ). register_after (8 * n) register) e;
    }
