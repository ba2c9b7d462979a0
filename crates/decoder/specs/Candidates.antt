-- The remainder of a whole word, and what is tried to mend it.
-- The promise of decode rests on nothing here: it is what the private functions promise one another.
-- Assumes nothing.
use Rattle.std.specs.Prelude.{◌≡◌, List, ℕ, suc, ◌-◌, ◌*◌, ◌/◌, ◌≤◌, length, take, drop, replicate, Option, Some, None, Ok}
use Rattle.std.specs.Int.Bits.{bit_xor}
use Rattle.bits.specs.Words.{Bits, differ}
use Rattle.bits.specs.Places.{places}
use Rattle.bits.specs.Remainders.{remainder}
use Rattle.bch.specs.Codes.{Code, Codeword, Within}
use Rattle.bch.specs.Promise.{Mended, Decodes}
use Rattle.bch.specs.Held.{Sound, code_of}
use Rattle.packed.specs.Packed.{bits512, padded}
use Rattle.bch.specs.Registers.{whole, at_top, Remainders}
use Rattle.answers.specs.Answers.{listed}
use Rattle.answers.specs.Checks.{passes}
use Rattle.bch.specs.declared.code.Held.{Held}
use Rattle.decoder.specs.declared.DecodedPacked.{DecodedPacked}
use Rattle.decoder.specs.declared.search.Flips.{Flips}

-- the remainder of a whole word, at the top of 192 digits
unfoldable pub leftover : Held → List ℕ → ℕ
leftover h w = bit_xor (remainder 192 (whole h.generator) (take h.k w)) (at_top (drop h.k w))

-- the machine words of an entry that its remainders reach into, below the highest
abbrev pub below_of : Held → ℕ
below_of h = (h.n - h.k - 1) / 64

-- a sound code, with its table, of whose entries these and the highest are read
pub record Ready (h : Held) (table : List ℕ) : Type 0 where
  pub sound : Sound h
  pub rule : Remainders (whole h.generator) (take (64 * suc (below_of h)) table)

-- the word that is packed: the first n bits
unfoldable pub word_of : Held → List ℕ → List ℕ
word_of h words = take h.n (bits512 words)

-- there is no bit but 0 behind them
abbrev pub Clear : Held → List ℕ → Type 0
Clear h words = bits512 words ≡ padded (word_of h words)

-- the packed word is decoded
abbrev pub DecodesPacked : Held → List ℕ → DecodedPacked → Type 0
DecodesPacked h words r = Decodes (passes (code_of h)) (word_of h words) (replicate 512 0) r.told (bits512 r.bits)

-- `copy` differs from the word in the places flipped, at most t, and is the only word that could be the answer
pub record Candidate (c : Code) (word copy : List ℕ) (flips : Flips) : Type 0 where
  pub bits : Bits copy
  pub long : length copy ≡ c.n
  pub count : flips.count ≡ differ copy word
  pub list : flips.places ≡ listed (places copy word)
  pub near : flips.count ≤ c.t
  pub only : (v : List ℕ) → Within c word v → v ≡ copy

-- the packed word is mended
abbrev pub MendsPacked : Held → List ℕ → DecodedPacked → Type 0
MendsPacked h words r = Mended (code_of h) (word_of h words) (replicate 512 0) r.told (bits512 r.bits)

-- a first try: what it answers is the answer; where it has none, the second has to say
abbrev pub Single : Held → List ℕ → Option DecodedPacked → Type 0
Single h words (Some r) = MendsPacked h words r
Single h words None = Unit

-- a second: where it answers nothing, no codeword lies within t
abbrev pub Several : Held → List ℕ → Option DecodedPacked → Type 0
Several h words (Some r) = MendsPacked h words r
Several h words None = (v : List ℕ) → Within (code_of h) (word_of h words) v → ⊥

-- the copy is answered, with what was flipped there, exactly where it is a codeword
abbrev pub Settles : Held → Flips → List ℕ → Option DecodedPacked → Type 0
Settles h flips copy (Some r) =
    Codeword (code_of h) (word_of h copy) × (r ≡ record { told = record { answer = Ok flips.count; places = flips.places }; bits = copy })
Settles h flips copy None = Codeword (code_of h) (word_of h copy) → ⊥
