-- What encode and decode promise: for every code number, word and lent list, the answer, of decode with the places mended, and what the list holds after.
-- Demand 3 is `Mended` and `Hopeless`: a codeword is answered exactly when one lies within t.
-- Assumes nothing.
use Rattle.std.specs.Prelude.{◌≡◌, ◌⊎◌, List, ◌++◌, ℕ, eqb, ltb, length, drop, cond}
use Rattle.answers.specs.Answers.{accepted, refused, of_written, of_word, accepted_word, refused_word, Written}
use Rattle.answers.specs.Checks.{Checked, fails, passes}
use Rattle.answers.specs.declared.DecodedWord.{DecodedWord}
use Rattle.bits.specs.Words.{first_bad, differ}
use Rattle.bits.specs.Places.{places}
use Rattle.bch.specs.Codes.{Code, Named, known, unknown, named, encoded, Within}

-- ---- the checks 1, 2, 3 and 4, which give the code

-- for a word that should have `size` bits, and a lent list that should have n elements or more
abbrev pub checked_by : Named → (Code → ℕ) → List ℕ → List ℕ → Checked Code
checked_by unknown size word out = fails 1 0
checked_by (known c) size word out =
    cond (eqb (length word) (size c))
    (cond (ltb (length out) c.n) (fails 3 0) (cond (ltb (first_bad word) (length word)) (fails 4 (first_bad word)) (passes c)))
    (fails 2 0)

abbrev pub checked : ℕ → (Code → ℕ) → List ℕ → List ℕ → Checked Code
checked c = checked_by (named c)

-- ---- encode

abbrev pub Encodes : Checked Code → List ℕ → List ℕ → Written → List ℕ → Type 0
Encodes (fails number place) word out answer after = (of_written answer ≡ refused number place) × (after ≡ out)
Encodes (passes c) word out answer after = (of_written answer ≡ accepted 0 0 0) × (after ≡ encoded c word ++ drop c.n out)

-- encode(c, word, out): the answer, and `out` after
abbrev pub Encoding : ℕ → List ℕ → List ℕ → Written → List ℕ → Type 0
Encoding c word out = Encodes (checked c (λ d. d.k) word out) word out

-- ---- decode

-- some codeword lies within t of the word: it is answered, with the number of places that differ, and the list of them
pub record Mended (c : Code) (word out : List ℕ) (answer : DecodedWord) (after : List ℕ) : Type 0 where
  pub codeword : List ℕ
  pub within : Within c word codeword
  pub tells : of_word answer ≡ accepted_word (differ codeword word) (places codeword word)
  pub left : after ≡ codeword ++ drop c.n out

-- no codeword lies within t of the word: it is refused as uncorrectable, and nothing is changed
pub record Hopeless (c : Code) (word out : List ℕ) (answer : DecodedWord) (after : List ℕ) : Type 0 where
  pub none : (v : List ℕ) → Within c word v → ⊥
  pub tells : of_word answer ≡ refused_word 9 0
  pub left : after ≡ out

abbrev pub Decodes : Checked Code → List ℕ → List ℕ → DecodedWord → List ℕ → Type 0
Decodes (fails number place) word out answer after = (of_word answer ≡ refused_word number place) × (after ≡ out)
Decodes (passes c) word out answer after = Mended c word out answer after ⊎ Hopeless c word out answer after

-- decode(c, word, out): the answer, with the places, and `out` after
abbrev pub Decoding : ℕ → List ℕ → List ℕ → DecodedWord → List ℕ → Type 0
Decoding c word out = Decodes (checked c (λ d. d.n) word out) word out
