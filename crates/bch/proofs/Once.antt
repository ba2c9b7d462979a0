-- The promise leaves one answer and one memory, for every code number, word and lent list.
-- Assumes nothing.
use mathlib.Core.Path.{◌≡◌, sym, ap, ◌∙◌}
use mathlib.Core.Logic.{inl, inr}
use mathlib.Core.List.{List, ◌++◌}
use Prim.Native.Nat.{ℕ, ◌<◌}
use native.Mathlib.Decide.{dec_lt, ℕ_discrete}
use native.Mathlib.Omega.{arith}
use lib.ListN.{length, drop}
use Rattle.answers.specs.Answers.{accepted_word, Written}
use Rattle.answers.specs.Checks.{Checked, fails, passes}
use Rattle.answers.proofs.Telling.{written_same, word_same}
use Rattle.bits.specs.Words.{first_bad, differ}
use Rattle.bits.specs.Places.{places}
use Rattle.bch.specs.Codes.{Code, known, code1, code2, code3}
use Rattle.bch.specs.Promise.{checked_by, checked, Encodes, Encoding, Decodes, Decoding, Mended}
use Rattle.bch.specs.Held.{Rooted}
use Rattle.answers.specs.declared.DecodedWord.{DecodedWord}
use Rattle.bch.proofs.Verdicts.{unknown_code, wrong_length, no_room, not_a_bit, all_pass}
use Rattle.bch.proofs.Generators.{rooted1, rooted2, rooted3}
use Rattle.bch.proofs.Uniqueness.{unique}

-- ---- every check, and then one of the three codes

module _ (P : Checked Code → Type 0) (size : Code → ℕ) (word out : List ℕ)
    (failed : (number place : ℕ) → P (fails number place)) (passed : (c : Code) → Rooted c → length word ≡ size c → P (passes c)) where
  of_code : (c : Code) → Rooted c → P (checked_by (known c) size word out)
  of_code c rooted = long (ℕ_discrete (length word) (size c))
    where
      bits : length word ≡ size c → Dec (length out < c.n) → Dec (first_bad word < length word) → P (checked_by (known c) size word out)
      bits e (yes l) _ = no_room P size word out c e l (failed 3 0)
      bits e (no l) (yes b) = not_a_bit P size word out c e (omega arith) b (failed 4 (first_bad word))
      bits e (no l) (no b) = all_pass P size word out c e (omega arith) (omega arith) (passed c rooted e)

      long : Dec (length word ≡ size c) → P (checked_by (known c) size word out)
      long (yes e) = bits e (dec_lt (length out) c.n) (dec_lt (first_bad word) (length word))
      long (no n) = wrong_length P size word out c n (failed 2 0)

  pub by_check : (c : ℕ) → P (checked c size word out)
  by_check c = go (ℕ_discrete c 1) (ℕ_discrete c 2) (ℕ_discrete c 3)
    where
      go : Dec (c ≡ 1) → Dec (c ≡ 2) → Dec (c ≡ 3) → P (checked c size word out)
      go (yes e) _ _ = rw e (of_code code1 rooted1)
      go (no _) (yes e) _ = rw e (of_code code2 rooted2)
      go (no _) (no _) (yes e) = rw e (of_code code3 rooted3)
      go (no n1) (no n2) (no n3) = unknown_code P size word out c n1 n2 n3 (failed 1 0)

-- ---- encode

module _ (word out : List ℕ) (a b : Written) (u v : List ℕ) where
  abbrev SameEncoded : Checked Code → Type 0
  SameEncoded k = Encodes k word out a u → Encodes k word out b v → (a ≡ b) × (u ≡ v)

  pub encode_once : (c : ℕ) → Encoding c word out a u → Encoding c word out b v → (a ≡ b) × (u ≡ v)
  encode_once =
      by_check SameEncoded (λ d. d.k) word out
      (λ number place p q. (written_same a b (p.0 ∙ sym q.0), p.1 ∙ sym q.1))
      (λ c rooted e p q. (written_same a b (p.0 ∙ sym q.0), p.1 ∙ sym q.1))

-- ---- decode

module _ (word out : List ℕ) (a b : DecodedWord) (u v : List ℕ) where
  abbrev SameDecoded : Checked Code → Type 0
  SameDecoded k = Decodes k word out a u → Decodes k word out b v → (a ≡ b) × (u ≡ v)

  one_mended : (c : Code) → Rooted c → length word ≡ c.n → Mended c word out a u → Mended c word out b v → (a ≡ b) × (u ≡ v)
  one_mended c rooted e p q =
      let same = unique rooted e p.within q.within in
      let told : accepted_word (differ p.codeword word) (places p.codeword word) ≡ accepted_word (differ q.codeword word) (places q.codeword word)
      = ap (λ (l : List ℕ). accepted_word (differ l word) (places l word)) same in
      let memory : p.codeword ++ drop c.n out ≡ q.codeword ++ drop c.n out = ap (λ (l : List ℕ). l ++ drop c.n out) same in
      (word_same a b (p.tells ∙ told ∙ sym q.tells), p.left ∙ memory ∙ sym q.left)

  one_answer : (c : Code) → Rooted c → length word ≡ c.n → SameDecoded (passes c)
  one_answer c rooted e (inl p) (inl q) = one_mended c rooted e p q
  one_answer c rooted e (inl p) (inr q) = absurd (q.none p.codeword p.within)
  one_answer c rooted e (inr p) (inl q) = absurd (p.none q.codeword q.within)
  one_answer c rooted e (inr p) (inr q) =
      (word_same a b (p.tells ∙ sym q.tells), p.left ∙ sym q.left)

  pub decode_once : (c : ℕ) → Decoding c word out a u → Decoding c word out b v → (a ≡ b) × (u ≡ v)
  decode_once =
      by_check SameDecoded (λ d. d.n) word out
      (λ number place p q. (word_same a b (p.0 ∙ sym q.0), p.1 ∙ sym q.1))
      one_answer
