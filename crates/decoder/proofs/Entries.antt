-- Between a word of elements, the word packed, and the checks: what is found of the packed word is the answer for the elements, and for the code's number.
-- Assumes nothing.
use mathlib.Core.Path.{◌≡◌, refl, sym, ap, ap₂, ◌∙◌}
use mathlib.Core.Logic.{inl, inr}
use mathlib.Core.List.{List, ◌++◌}
use Prim.Native.Nat.{ℕ, ◌-◌, ◌≤◌, ◌<◌}
use native.Mathlib.Omega.{arith}
use lib.ListN.{length, take, drop, get_or, replicate, length-take, length-replicate}
use lib.Seq.{take_all, take_at, get_or-take}
use Rattle.answers.specs.Answers.{most_places, ToldWord, of_decoded, of_word, accepted_word, no_word, Decoded}
use Rattle.answers.specs.Checks.{passes}
use Rattle.answers.specs.declared.Refusal.{Refusal}
use Rattle.answers.specs.declared.Refusal.TheVariants.{Unknown}
use Rattle.answers.specs.declared.Told.{Told}
use Rattle.answers.specs.declared.DecodedWord.{DecodedWord}
use Rattle.answers.proofs.Telling.{never_accepted, word_told, not_refused}
use Rattle.bits.specs.Words.{Bits, lowest, differ}
use Rattle.bits.specs.Places.{places, flipped_at}
use Rattle.bits.proofs.Digits.{none_bad, lowest_same}
use Rattle.bch.specs.Codes.{Code, known, unknown, named, Within}
use Rattle.bch.specs.Promise.{Mended, Decodes, Decoding}
use Rattle.bch.specs.Held.{Sound, code_of, Fitting}
use Rattle.bch.specs.declared.code.Held.{Held}
use Rattle.bch.proofs.Verdicts.{all_pass}
use Rattle.bch.proofs.Listings.{Names, names}
use Rattle.packed.specs.Packed.{bits512, padded}
use Rattle.decoder.specs.Candidates.{word_of, Clear, DecodesPacked}
use Rattle.decoder.specs.Promise.{bits_by, DecodingPacked}
use Rattle.decoder.specs.declared.DecodedPacked.{DecodedPacked}
use Rattle.decoder.proofs.PackedWords.{word_long, word_bits}
use Rattle.std.specs.Prelude.{Ok, Err}

-- ---- a word of n bits, packed

module _ (h : Held) (words word : List ℕ) (long : length word ≡ h.n) (packed : bits512 words ≡ padded word) where
  packed_word : word_of h words ≡ word
  unfolding word_of
  packed_word = ap (take h.n) packed ∙ take_at word (replicate (512 - length word) 0) h.n long

  packed_clear : Clear h words
  packed_clear = packed ∙ ap padded (sym packed_word)

-- ---- the answer for a word of elements

-- a codeword is the answer, and the first m places of the list are those where the word differs from it
pub record Answered (c : Code) (word : List ℕ) (answer : DecodedWord) (m : ℕ) : Type 0 where
  pub codeword : List ℕ
  pub within : Within c word codeword
  pub tells : of_word answer ≡ accepted_word (differ codeword word) (places codeword word)
  pub count : m ≡ differ codeword word
  pub list : Names answer.places word codeword m

-- whatever list was lent
module _ {c : Code} (word : List ℕ) (bits : Bits word) (long : length word ≡ c.n) {old after : List ℕ} (answer : DecodedWord) where
  answered : (m : ℕ) → answer.answer ≡ Ok m → Decodes (passes c) word old answer after → Answered c word answer m
  answered m e (inl h) =
      let v = h.codeword in
      let is = h.within.codeword in
      let count : m ≡ differ v word = ap (λ (d : Decoded). (of_decoded d).mended) (sym e) ∙ ap (λ (t : Told). t.mended) (word_told answer h.tells) in
      record {
        codeword = v;
        within = h.within;
        tells = h.tells;
        count = count;
        list = rw count (names v word is.bits bits (is.long ∙ sym long) (ap (λ (t : ToldWord). t.places) h.tells));
      }
  answered m e (inr h) = absurd (not_refused (ap of_decoded e) (word_told answer h.tells) (omega arith))

  refused : (why : Refusal) → answer.answer ≡ Err why → (out : List ℕ) → Decodes (passes c) word old answer after → Decodes (passes c) word out answer out
  refused why e out (inl h) = absurd (never_accepted why _ _ _ (ap of_decoded (sym e) ∙ word_told answer h.tells))
  refused why e out (inr h) = inr (record { none = h.none; tells = h.tells; left = refl })

module _ {c : Code} {word : List ℕ} {answer : DecodedWord} {m : ℕ} (is : Answered c word answer m) where
  pub few_listed : c.t ≤ most_places → m ≤ most_places
  few_listed few = omega (arith, is.count, is.within.near)

  pub all_listed : m ≤ length answer.places
  all_listed = omega (arith, is.list.many, length-take m answer.places)

  pub listed_inside : (j : ℕ) → j < m → get_or answer.places j 0 < length word
  listed_inside j l = rw (get_or-take m answer.places j 0 l) at (is.list.inside j l)

  -- the word was written with those places flipped
  pub mended_written : length word ≡ c.n → (out : List ℕ) {after : List ℕ}
      → after ≡ flipped_at (take m answer.places) word ++ drop (length word) out → Mended c word out answer after
  mended_written long out e = record {
    codeword = is.codeword;
    within = is.within;
    tells = is.tells;
    left = e ∙ ap₂ (λ (l : List ℕ) (n : ℕ). l ++ drop n out) is.list.flipped long;
  }

-- a word that fits was packed
module _ {h : Held} {word out : List ℕ} (fit : Fitting h h.n word out) (words : List ℕ) (e : bits512 words ≡ padded (take 512 (lowest word))) where
  packed : bits512 words ≡ padded word
  packed = e ∙ ap padded (ap (take 512) (lowest_same word fit.bits) ∙ take_all 512 word (omega (arith, fit.sound.short, fit.long)))

  pub elements_clear : Clear h words
  elements_clear = packed_clear h words word fit.long packed

  module _ (r : DecodedPacked) (mends : DecodesPacked h words r) where
    told : Decodes (passes (code_of h)) word (replicate 512 0) r.told (bits512 r.bits)
    told = rw (packed_word h words word fit.long packed) at mends

    pub elements_answered : (m : ℕ) → r.told.answer ≡ Ok m → Answered (code_of h) word r.told m
    elements_answered m is = answered word fit.bits fit.long r.told m is told

    pub elements_refused : (why : Refusal) → r.told.answer ≡ Err why → Decodes (passes (code_of h)) word out r.told out
    elements_refused why is = refused word fit.bits fit.long r.told why is out told

-- ---- the answer for a packed word

module _ {h : Held} (sound : Sound h) (words : List ℕ) where
  -- the checks pass
  passing : (number : ℕ) → named number ≡ known (code_of h) → (out : List ℕ) → h.n ≤ length out → (answer : DecodedWord) (after : List ℕ)
      → Decodes (passes (code_of h)) (word_of h words) out answer after → Decoding number (take (bits_by (named number)) (bits512 words)) out answer after
  unfolding word_of
  passing number code out room answer after is =
      let word = word_of h words in
      rw code (all_pass (λ k. Decodes k word out answer after) (λ d. d.n) word out (code_of h) (word_long sound words) room
      (none_bad word (word_bits sound words)) is)

  -- the first n bits were taken
  module _ (first : List ℕ) (e : bits512 first ≡ padded (take h.n (bits512 words))) where
    pub first_clear : Clear h first
    unfolding word_of
    first_clear = packed_clear h first (word_of h words) (word_long sound words) e

    pub first_decoded : (number : ℕ) → named number ≡ known (code_of h) → (r : DecodedPacked) → DecodesPacked h first r → DecodingPacked number words r.told r.bits
    unfolding word_of
    first_decoded number code r mends =
        passing number code (replicate 512 0) (omega (arith, sound.short, length-replicate {A = ℕ} 512 0)) r.told (bits512 r.bits)
        (rw (packed_word h first (word_of h words) (word_long sound words) e) at mends)

-- there is no such code
pub unknown_decoded : (number : ℕ) → named number ≡ unknown → (words : List ℕ) (r : DecodedPacked) → r.told ≡ no_word Unknown → bits512 r.bits ≡ replicate 512 0
    → DecodingPacked number words r.told r.bits
unknown_decoded number code words r told left = rw code (ap of_word told, left)
