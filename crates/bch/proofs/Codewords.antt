-- Codewords: what encode writes, decode's two answers, and the information of a codeword.
-- Assumes nothing.
use mathlib.Core.List.{List, ◌++◌}
use mathlib.Core.Logic.{inl, inr}
use mathlib.Core.Path.{◌≡◌, sym, ap, ◌∙◌}
use Prim.Native.Nat.{ℕ, ◌≤◌}
use native.Mathlib.Omega.{arith}
use lib.ListN.{length, take, drop}
use lib.Seq.{take_at}
use Rattle.answers.specs.Checks.{passes}
use Rattle.answers.specs.Answers.{accepted, refused, of_decoded, Decoded, Written}
use Rattle.answers.specs.declared.Told.{Told}
use Rattle.answers.proofs.Telling.{word_told, never_accepted}
use Rattle.bch.proofs.Verdicts.{all_pass}
use Rattle.bits.proofs.Digits.{none_bad}
use Rattle.bch.proofs.Mendings.{only_codeword, encoding_codeword}
use Rattle.bch.specs.Codes.{Code, known, named, encoded, Within}
use Rattle.bch.specs.Promise.{Encodes, Encoding, Mended, Hopeless, Decodes, Decoding}
use Rattle.bits.specs.Words.{Bits, differ}
use Rattle.answers.specs.declared.DecodedWord.{DecodedWord}
use Rattle.answers.specs.declared.Refusal.{Refusal}
use Rattle.std.specs.Prelude.{Ok, Err}

-- ---- what encode writes

-- the codeword stands at the front of a list with room for it
pub encoded_front : (number : ℕ) {c : Code} → named number ≡ known c → (word out : List ℕ) (answer : Written) (after : List ℕ) → Bits word
    → length word ≡ c.k → c.n ≤ length out → Encoding number word out answer after → after ≡ encoded c word ++ drop c.n out
encoded_front number {c} code word out answer after bits long room encoding =
    all_pass (λ k. Encodes k word out answer after → after ≡ encoded c word ++ drop c.n out) (λ d. d.k) word out c long room (none_bad word bits)
    (λ p. p.1) (rw code at encoding)

-- ---- decode's two answers

-- what holds where a codeword is within t and is written, and where there is none
pub by_answer : (number : ℕ) {c : Code} → named number ≡ known c → (word out : List ℕ) (answer : DecodedWord) (after : List ℕ) → Bits word
    → length word ≡ c.n → c.n ≤ length out → (P : Decoded → Type 0) → ((h : Mended c word out answer after) → P (Ok (differ h.codeword word)))
    → (Hopeless c word out answer after → (r : Refusal) → P (Err r)) → Decoding number word out answer after → P answer.answer
by_answer number {c} code word out answer after bits long room P found none decoding =
    go (all_pass (λ k. Decodes k word out answer after → Decodes (passes c) word out answer after) (λ d. d.n) word out c
    long room (none_bad word bits) (λ p. p) (rw code at decoding))
  where
    of_mended : (m : ℕ) → P (Ok m) → (a : Decoded) → of_decoded a ≡ accepted m 0 0 → P a
    of_mended m p (Ok k) e = rw (ap (λ (t : Told). t.mended) e) p
    of_mended m p (Err r) e = absurd (never_accepted r _ _ _ e)

    of_hopeless : ((r : Refusal) → P (Err r)) → (a : Decoded) → of_decoded a ≡ refused 9 0 → P a
    of_hopeless p (Ok k) e = absurd (let z : ◌≡◌ {A = ℕ} 0 9 = ap (λ (t : Told). t.number) e in omega arith)
    of_hopeless p (Err r) e = p r

    go : Decodes (passes c) word out answer after → P answer.answer
    go (inl h) = of_mended (differ h.codeword word) (found h) answer.answer (word_told answer h.tells)
    go (inr h) = of_hopeless (none h) answer.answer (word_told answer h.tells)

-- ---- a codeword is what encode makes of its information

-- the information of an encoded word
pub information_of : (c : Code) (m : List ℕ) → length m ≡ c.k → take c.k (encoded c m) ≡ m
unfolding encoded
information_of c m long = take_at m _ c.k long

-- information whose codeword lies within t of a word is that of the codeword within t
pub told : (number : ℕ) {c : Code} → named number ≡ known c → {a v : List ℕ} → length a ≡ c.n → Within c a v → (m : List ℕ) → Bits m → length m ≡ c.k
    → differ (encoded c m) a ≤ c.t → m ≡ take c.k v
told number {c} code {a} {v} row within m bits long near =
    let same : encoded c m ≡ v = only_codeword number code row (record { codeword = encoding_codeword number code m bits long; near = near }) within in
    sym (information_of c m long) ∙ ap (take c.k) same
