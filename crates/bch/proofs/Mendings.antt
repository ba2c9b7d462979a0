-- What the promise means for words that were sent: encoding gives codewords; hits up to t are mended, with their count and places; with more
-- than t hits the codeword that was sent is never the answer.
-- Assumes nothing.
use mathlib.Core.Path.{◌≡◌, sym, ap, ap₂, ◌∙◌}
use mathlib.Core.Logic.{inl, inr}
use mathlib.Core.List.{List, [], ◌++◌}
use Prim.Native.Nat.{ℕ, ◌-◌, ◌≤◌, ◌<◌}
use native.Mathlib.Omega.{arith}
use lib.ListN.{length, take, drop, length-append}
use lib.Seq.{take_at}
use Rattle.bits.specs.Words.{Bits, digits, differ}
use Rattle.bits.specs.Places.{places}
use Rattle.bits.specs.Remainders.{remainder}
use Rattle.bch.specs.Codes.{Code, known, named, encoded, Codeword, Within}
use Rattle.answers.specs.Answers.{accepted, of_decoded, ToldWord, of_word, accepted_word}
use Rattle.answers.specs.Checks.{passes}
use Rattle.bch.specs.Promise.{Decodes, Decoding}
use Rattle.bch.specs.Held.{Rooted}
use Rattle.answers.specs.declared.Told.{Told}
use Rattle.answers.specs.declared.DecodedWord.{DecodedWord}
use Rattle.bits.proofs.Digits.{bits_append, none_bad, length_digits, digits_bits}
use Rattle.bits.proofs.Distances.{differ_self}
use Rattle.bits.proofs.Placing.{places_self}
use Rattle.bch.proofs.Verdicts.{all_pass, of_three}
use Rattle.bch.proofs.Generators.{rooted1, rooted2, rooted3}
use Rattle.bch.proofs.Uniqueness.{unique}
use Rattle.bch.proofs.Listings.{Names, names}

-- ---- encoding

encoded_codeword : {c : Code} → Rooted c → (m : List ℕ) → Bits m → length m ≡ c.k → Codeword c (encoded c m)
unfolding encoded
encoded_codeword {c} rooted m bits long =
    let behind = digits (c.n - c.k) (remainder (c.n - c.k) c.generator m) in
    let e : length behind ≡ c.n - c.k = length_digits (c.n - c.k) (remainder (c.n - c.k) c.generator m) in
    let s = rooted.order in
    record {
      long = length-append m behind ∙ omega arith;
      bits = bits_append m behind bits (digits_bits (c.n - c.k) (remainder (c.n - c.k) c.generator m));
      made = ap (encoded c) (sym (take_at m behind c.k long));
    }

-- ---- the three codes by their numbers

rooted_of : (number : ℕ) (c : Code) → named number ≡ known c → Rooted c
rooted_of = of_three Rooted rooted1 rooted2 rooted3

-- so what stands above the codes needs a code's number alone
module _ (number : ℕ) {c : Code} (code : named number ≡ known c) where
  -- never two codewords within t
  pub only_codeword : {w v u : List ℕ} → length w ≡ c.n → Within c w v → Within c w u → v ≡ u
  only_codeword = unique (rooted_of number c code)

  -- what is encoded is a codeword
  pub encoding_codeword : (m : List ℕ) → Bits m → length m ≡ c.k → Codeword c (encoded c m)
  encoding_codeword = encoded_codeword (rooted_of number c code)

module _ (number : ℕ) {c : Code} (code : named number ≡ known c) (w out : List ℕ) (bits : Bits w) (long : length w ≡ c.n) (room : c.n ≤ length out)
    (answer : DecodedWord) (after : List ℕ) (decoding : Decoding number w out answer after) where
  passed : Decodes (passes c) w out answer after
  passed =
      all_pass (λ k. Decodes k w out answer after → Decodes (passes c) w out answer after) (λ d. d.n) w out c long room (none_bad w bits)
      (λ p. p) (rw code at decoding)

  -- a codeword within t of the word is the answer
  near_is_answered : (v : List ℕ) → Within c w v
      → (of_word answer ≡ accepted_word (differ v w) (places v w)) × (after ≡ v ++ drop c.n out)
  near_is_answered v within = go passed
    where
      go : Decodes (passes c) w out answer after → (of_word answer ≡ accepted_word (differ v w) (places v w)) × (after ≡ v ++ drop c.n out)
      go (inr h) = absurd (h.none v within)
      go (inl m) =
          let same = only_codeword number code long m.within within in (
            m.tells ∙ ap (λ (l : List ℕ). accepted_word (differ l w) (places l w)) same,
            m.left ∙ ap (λ (l : List ℕ). l ++ drop c.n out) same,
          )

  -- a word further than t away is not
  far_is_not : (v : List ℕ) → c.t < differ v w → (of_word answer).told.number ≡ 0 → take c.n after ≡ v → ⊥
  far_is_not v far zero e = go passed
    where
      go : Decodes (passes c) w out answer after → ⊥
      go (inr h) = let z : ◌≡◌ {A = ℕ} 9 0 = ap (λ (t : ToldWord). t.told.number) (sym h.tells) ∙ zero in omega arith
      go (inl m) =
          let same : m.codeword ≡ v = sym (take_at m.codeword (drop c.n out) c.n m.within.codeword.long) ∙ ap (take c.n) (sym m.left) ∙ e in
          let near : differ v w ≤ c.t = rw same at m.within.near in
          omega arith

  -- where m bits are answered as mended, the first m entries of the list name their places in the word: flipped there, it is what was written
  pub places_named : (m : ℕ) → of_decoded answer.answer ≡ accepted m 0 0 → Names answer.places w (take c.n after) m
  places_named m told = go passed
    where
      go : Decodes (passes c) w out answer after → Names answer.places w (take c.n after) m
      go (inr h) =
          let z : ◌≡◌ {A = ℕ} 9 0 = ap (λ (t : ToldWord). t.told.number) (sym h.tells) ∙ ap (λ (t : Told). t.number) told in absurd (omega arith)
      go (inl h) =
          let written : take c.n after ≡ h.codeword
          = ap (take c.n) h.left ∙ take_at h.codeword (drop c.n out) c.n h.within.codeword.long in
          let count : m ≡ differ h.codeword w = ap (λ (t : Told). t.mended) (sym told) ∙ ap (λ (t : ToldWord). t.told.mended) h.tells in
          rw (written, count)
          (names h.codeword w h.within.codeword.bits bits (h.within.codeword.long ∙ sym long) (ap (λ (t : ToldWord). t.places) h.tells))

-- ---- the sentences of demand 3, by name

module _ (number : ℕ) {c : Code} (code : named number ≡ known c) (out : List ℕ) (room : c.n ≤ length out) (answer : DecodedWord) (after : List ℕ) where
  -- a codeword decodes to itself, with count 0 and no place
  pub codeword_decodes : (v : List ℕ) → Codeword c v → Decoding number v out answer after
      → (of_word answer ≡ accepted_word 0 []) × (after ≡ v ++ drop c.n out)
  codeword_decodes v codeword decoding =
      let z = differ_self v in
      let a = near_is_answered number code v out codeword.bits codeword.long room answer after decoding v (record { codeword = codeword; near = omega arith }) in
      (a.0 ∙ ap₂ accepted_word z (places_self v), a.1)

  module _ (m : List ℕ) (bits : Bits m) (long : length m ≡ c.k) (w : List ℕ) (w_bits : Bits w) (w_long : length w ≡ c.n)
      (decoding : Decoding number w out answer after) where
    -- encode, flip any at most t places, decode: the codeword comes back, the count is the number of flips, and the list names them
    pub hits_are_mended : differ (encoded c m) w ≤ c.t
        → (of_word answer ≡ accepted_word (differ (encoded c m) w) (places (encoded c m) w)) × (after ≡ encoded c m ++ drop c.n out)
    hits_are_mended near =
        near_is_answered number code w out w_bits w_long room answer after decoding (encoded c m)
        (record { codeword = encoding_codeword number code m bits long; near = near })

    -- with more than t flipped, the old codeword is never the answer
    pub hits_beyond : c.t < differ (encoded c m) w → (of_word answer).told.number ≡ 0 → take c.n after ≡ encoded c m → ⊥
    hits_beyond far = far_is_not number code w out w_bits w_long room answer after decoding (encoded c m) far
