-- What the locator of a word's syndromes says of the codewords within t, and what a word with one place flipped is.
-- Assumes nothing.
use mathlib.Core.Path.{◌≡◌, sym, ap, ap₂, ◌∙◌}
use mathlib.Core.List.{List, [], ◌∷◌, ◌++◌}
use Prim.Native.Nat.{ℕ, suc, ◌-◌, ◌*◌, ◌≤◌, ◌<◌}
use native.Mathlib.Omega.{arith}
use lib.ListN.{length, drop, get_or, set, replicate, length-set}
use Rattle.algebra.proofs.Berlekamp.{Found}
use Rattle.field.proofs.Elements.{gf512}
use Rattle.field.proofs.Values.{series}
use Rattle.bits.specs.Words.{Bits, differ}
use Rattle.bits.specs.Places.{places}
use Rattle.bch.specs.Codes.{Code, Codeword, Within}
use Rattle.bch.specs.Registers.{tops}
use Rattle.decoder.specs.Locators.{Turned}
use Rattle.decoder.specs.Syndromes.{Syndromes}
use Rattle.bch.specs.Held.{Sound, code_of}
use Rattle.decoder.specs.Candidates.{leftover, word_of, Candidate, Single, Several, Settles}
use Rattle.decoder.specs.declared.search.Flips.{Flips}
use Rattle.answers.specs.Answers.{accepted, listed, of_word, accepted_word}
use Rattle.packed.specs.Packed.{bits512}
use Rattle.bch.specs.Promise.{Mended}
use Rattle.decoder.specs.declared.DecodedPacked.{DecodedPacked}
use Rattle.bch.specs.declared.code.Held.{Held}
use Rattle.bits.proofs.Copies.{bits_set}
use Rattle.bits.proofs.Distances.{differ_self}
use Rattle.bits.proofs.Placing.{as_many, places_self, places_flipped}
use Rattle.decoder.proofs.Leftovers.{value_left}
use Rattle.decoder.proofs.Completeness.{turned_bits, few, exact, complete}
use Rattle.std.specs.Prelude.{Option, Some, None, Ok}

module _ {h : Held} (sound : Sound h) (w : List ℕ) (bits : Bits w) (long : length w ≡ h.n)
    (s : List ℕ) (known : Syndromes (tops (h.n - h.k) (leftover h w)) (h.t * 2) s)
    (locator : List ℕ) {T : ℕ → gf512.Element} {len : ℕ} {b : gf512.Element}
    (found : Found gf512 (series s) (h.t * 2) (series locator) T len b) where
  -- the syndromes of what is left are the word's
  of_word_lem : Syndromes w (h.t * 2) s
  of_word_lem i l = known i l ∙ value_left sound w bits long (suc i) (omega arith) l

  pub none_near : h.t < len → (v : List ℕ) → Within (code_of h) w v → ⊥
  none_near over v within =
      let e = exact sound.rooted bits long within s of_word_lem locator found in
      let n = within.near in
      omega arith

  module _ (fits : len ≤ h.t) {copy : List ℕ} {flips : Flips} (turned : Turned locator len w copy flips) where
    few_flips : flips.count ≤ h.t
    few_flips = let l = few bits turned (omega (arith, sound.short)) found.current.lead in omega arith

    pub candidate : Candidate (code_of h) w copy flips
    candidate = record {
      bits = turned_bits bits turned;
      long = turned.long ∙ long;
      count = turned.count;
      list = turned.list (let l = few_flips in omega (arith, sound.few));
      near = few_flips;
      only = λ v within. complete sound.rooted bits long within s of_word_lem locator found turned;
    }

-- the only candidate is the answer exactly where it is a codeword
pub settled : (h : Held) (words copy : List ℕ) {flips : Flips} → Candidate (code_of h) (word_of h words) (word_of h copy) flips
    → bits512 copy ≡ word_of h copy ++ drop h.n (replicate 512 0) → (r : Option DecodedPacked) → Settles h flips copy r → Several h words r
settled h words copy found written (Some r) (codeword, e) = record {
  codeword = word_of h copy;
  within = record { codeword = codeword; near = (let n = found.near in let k = found.count in omega arith) };
  tells = ap (λ (d : DecodedPacked). of_word d.told) e
      ∙ ap₂ (λ (n : ℕ) (l : List ℕ). record { told = accepted n 0 0; places = l }) found.count found.list;
  left = ap (λ (d : DecodedPacked). bits512 d.bits) e ∙ written;
}
settled h words copy found written None not = λ v within. not (rw (found.only v within) at within.codeword)

-- a codeword is its own answer
pub clean : {c : Code} {word out after : List ℕ} → Codeword c word → after ≡ word ++ drop c.n out
    → Mended c word out (record { answer = Ok 0; places = listed [] }) after
clean {c} {word} codeword e = record {
  codeword = word;
  within = record { codeword = codeword; near = (let z = differ_self word in omega arith) };
  tells = ap₂ accepted_word (sym (differ_self word)) (sym (places_self word));
  left = e;
}

-- ---- one place flipped

-- a word of bits as long as w, that differs from it in the place p
pub record Neighbour (w copy : List ℕ) (p : ℕ) : Type 0 where
  pub bits : Bits copy
  pub long : length copy ≡ length w
  pub there : places copy w ≡ p ∷ []

-- one place flipped
pub neighbour : (w : List ℕ) (p : ℕ) → Bits w → p < length w → Neighbour w (set w p (1 - get_or w p 0)) p
neighbour w p bits low = record {
  bits = bits_set w p (1 - get_or w p 0) bits (omega arith);
  long = length-set w p (1 - get_or w p 0);
  there = places_flipped w bits p low;
}

-- a neighbour that is a codeword is the answer
pub settled_neighbour : (h : Held) (words copy : List ℕ) {p : ℕ} → Neighbour (word_of h words) (word_of h copy) p
    → bits512 copy ≡ word_of h copy ++ drop h.n (replicate 512 0) → 1 ≤ h.t
    → (r : Option DecodedPacked) → Settles h (record { count = 1; places = listed (p ∷ []) }) copy r → Single h words r
settled_neighbour h words copy near written mends (Some r) (codeword, e) =
    let w = word_of h words in
    let apart : differ (word_of h copy) w ≡ 1 = sym (as_many (word_of h copy) w) ∙ ap length near.there in record {
      codeword = word_of h copy;
      within = record { codeword = codeword; near = omega (arith, apart) };
      tells = ap (λ (d : DecodedPacked). of_word d.told) e ∙ ap₂ accepted_word (sym apart) (sym near.there);
      left = ap (λ (d : DecodedPacked). bits512 d.bits) e ∙ written;
    }
settled_neighbour h words copy near written mends None _ = tt
