-- Packed information, and the codeword of it packed: what is left of information with zeros behind is its remainder, and the checks pass.
-- Assumes nothing.
use mathlib.Core.Path.{◌≡◌, refl, sym, ap, ap₂, ◌∙◌}
use mathlib.Core.List.{List, [], ◌++◌, zip_with}
use Prim.Native.Nat.{ℕ, ◌+◌, ◌-◌, ◌^◌, ◌≤◌, ◌<◌, min}
use native.Mathlib.Omega.{arith}
use lib.Bits.{bit_xor, xor_zero_r}
use lib.ListN.{length, take, drop, replicate, length-append, length-replicate, replicate-append-replicate}
use lib.Seq.{length-take-le, take_at, drop_at}
use Rattle.answers.specs.declared.Refusal.TheVariants.{Unknown}
use Rattle.bits.specs.Words.{Bits, digits}
use Rattle.bits.specs.Remainders.{remainder}
use Rattle.bits.proofs.Digits.{bits_take, digits_bits, length_digits, none_bad}
use Rattle.bits.proofs.Remainders.{remainder-lt}
use Rattle.packed.specs.Packed.{bits_from, bits512, padded}
use Rattle.packed.proofs.Walks.{length_512, bits_512}
use Rattle.packed.proofs.Paddings.{take-zeros}
use Rattle.bch.proofs.Sounds.{degree_192}
use Rattle.bch.specs.Codes.{known, unknown, named, encoded}
use Rattle.bch.specs.Held.{Sound, code_of}
use Rattle.bch.specs.Promise.{Encodes}
use Rattle.bch.specs.Registers.{whole, at_top, Remainders}
use Rattle.bch.specs.declared.code.Held.{Held}
use Rattle.bch.proofs.Sounds.{scaled}
use Rattle.bch.proofs.Tops.{at_top-digits}
use Rattle.bch.proofs.Triples.{joined}
use Rattle.bch.proofs.Verdicts.{all_pass}
use Rattle.remainders.specs.Taking.{leftover_by}
use Rattle.remainders.proofs.Leftovers.{leftover_by_lem}
use Rattle.remainders.proofs.Windows.{at_top_zeros}
use Rattle.encoder.specs.Promise.{EncodingPacked}
use Rattle.encoder.proofs.Behind.{eight_of, register_packed, added_behind}
use Rattle.std.specs.Prelude.{Ok, Err}

module _ {h : Held} (sound : Sound h) where
  information_low : h.k ≤ 512
  information_low = omega (arith, sound.rooted.order, sound.short)

  -- the first k bits
  information_long : (words : List ℕ) → length (take h.k (bits512 words)) ≡ h.k
  information_long words = length-take-le h.k (bits512 words) (omega (arith, length_512 words, information_low))

  information_bits : (words : List ℕ) → Bits (take h.k (bits512 words))
  information_bits words = bits_take h.k (bits512 words) (bits_512 words)

  encoded_long : (m : List ℕ) → length m ≡ h.k → length (encoded (code_of h) m) ≡ h.n
  unfolding encoded
  encoded_long m long =
      let rest = digits (h.n - h.k) (remainder (h.n - h.k) (code_of h).generator m) in
      length-append m rest ∙ omega (arith, length_digits (h.n - h.k) (remainder (h.n - h.k) (code_of h).generator m), sound.rooted.order)

-- ---- the codeword

abbrev zeros : ℕ → List ℕ
zeros n = replicate n 0

-- information with zeros behind
module _ {h : Held} (sound : Sound h) (words : List ℕ) (clear : bits512 words ≡ padded (take h.k (bits512 words))) where
  abbrev information : List ℕ
  information = take h.k (bits512 words)

  all_there : length information ≡ h.k
  all_there = information_long sound words

  none_behind : at_top (take 192 (drop h.k (bits512 words))) ≡ 0
  unfolding at_top
  none_behind =
      let j = 512 - length information in
      ap (λ (l : List ℕ). at_top (take 192 (drop h.k l))) clear
      ∙ ap (λ (l : List ℕ). at_top (take 192 l)) (drop_at information (zeros j) h.k all_there)
      ∙ ap at_top (take-zeros 192 j) ∙ at_top_zeros [] (min 192 j)

  pub left : {table : List ℕ} → Remainders (whole h.generator) table → leftover_by table h.k words ≡ remainder 192 (whole h.generator) information
  left {table} rule =
      let x = remainder 192 (whole h.generator) information in
      leftover_by_lem (whole h.generator) table words h.k rule (degree_192 sound) sound.bytes (omega (arith, sound.rooted.order, sound.short))
      ∙ ap (bit_xor x) none_behind ∙ xor_zero_r x

  -- the check bits, which stand at the top of the register
  check : List ℕ
  check = digits (h.n - h.k) (remainder (h.n - h.k) (code_of h).generator information)

  check_top : remainder 192 (whole h.generator) information ≡ at_top check
  unfolding check
  check_top =
      scaled sound information
      ∙ sym (at_top-digits (h.n - h.k) _ sound.narrow
      (remainder-lt (h.n - h.k) (code_of h).generator sound.rooted.degree information (information_bits sound words)))

  -- they are put behind the information
  pub codeword_packed : (high mid low : ℕ) → high < 2 ^ 64 → mid < 2 ^ 64 → low < 2 ^ 64
      → joined (2 ^ 64) high mid low ≡ remainder 192 (whole h.generator) (take h.k (bits512 words))
      → (moved out : List ℕ) → bits512 moved ≡ take 512 (replicate h.k 0 ++ bits512 (eight_of high mid low))
      → bits512 out ≡ zip_with bit_xor (bits512 words) (bits512 moved) → bits512 out ≡ padded (encoded (code_of h) (take h.k (bits512 words)))
  unfolding encoded check
  codeword_packed high mid low kh km kl e moved out em eo =
      let d = length_digits (h.n - h.k) (remainder (h.n - h.k) (code_of h).generator information) in
      let top = register_packed high mid low kh km kl check (digits_bits _ _) (omega (arith, sound.narrow)) (e ∙ check_top) in
      let room : length information + length check ≤ 512 = omega (arith, all_there, sound.rooted.order, sound.short) in
      eo ∙ ap₂ (zip_with bit_xor) clear
      (em ∙ ap₂ (λ (k : ℕ) (l : List ℕ). take 512 (zeros k ++ l)) (sym all_there) top) ∙ added_behind information check room

-- ---- the answer

-- the first k bits were taken
module _ {h : Held} (sound : Sound h) (words first : List ℕ) (e : bits512 first ≡ padded (take h.k (bits512 words))) where
  same : take h.k (bits512 first) ≡ take h.k (bits512 words)
  same =
      let m = take h.k (bits512 words) in ap (take h.k) e ∙ take_at m (zeros (512 - length m)) h.k (information_long sound words)

  pub first_clear : bits512 first ≡ padded (take h.k (bits512 first))
  first_clear = e ∙ ap padded (sym same)

  -- the codeword, and the rest of 512 zeros
  as_written : (v : List ℕ) → length v ≡ h.n → padded v ≡ v ++ drop h.n (zeros 512)
  as_written v long =
      let n = h.n in
      let s : 512 ≡ n + (512 - n) = omega (arith, sound.short) in
      let cut : drop n (zeros 512) ≡ zeros (512 - n)
      = ap (λ (k : ℕ). drop n (zeros k)) s ∙ ap (drop n) (sym (replicate-append-replicate n (512 - n) 0))
      ∙ drop_at (zeros n) (zeros (512 - n)) n (length-replicate n 0) in
      ap (λ (k : ℕ). v ++ zeros (512 - k)) long ∙ ap (λ (l : List ℕ). v ++ l) (sym cut)

  pub first_encoded : (number : ℕ) → named number ≡ known (code_of h) → (out : List ℕ) → bits512 out ≡ padded (encoded (code_of h) (take h.k (bits512 first)))
      → EncodingPacked number words (Ok tt) out
  first_encoded number code out eo =
      let m = take h.k (bits512 words) in
      let long = information_long sound words in
      let written = eo ∙ ap (λ (l : List ℕ). padded (encoded (code_of h) l)) same ∙ as_written (encoded (code_of h) m) (encoded_long sound m long) in
      rw code
      (all_pass (λ k. Encodes k m (zeros 512) (Ok tt) (bits512 out)) (λ d. d.k) m (zeros 512) (code_of h) long
      (omega (arith, sound.short, length-replicate {A = ℕ} 512 0)) (none_bad m (information_bits sound words)) (refl, written))

-- there is no such code
pub unknown_encoded : (number : ℕ) → named number ≡ unknown → (words : List ℕ) → EncodingPacked number words (Err Unknown) (replicate 8 0)
unfolding bits512 bits_from digits
unknown_encoded number code words = rw code (refl, refl)
