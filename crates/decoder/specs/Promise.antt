-- What decode_packed promises: what decode promises of the word's bits (bch/specs/Promise), with a list of 512 zeros lent, which comes back packed.
-- Assumes nothing.
use Rattle.std.specs.Prelude.{List, ℕ, take, replicate}
use Rattle.answers.specs.declared.DecodedWord.{DecodedWord}
use Rattle.bch.specs.Codes.{Named, known, unknown, named}
use Rattle.bch.specs.Promise.{Decoding}
use Rattle.packed.specs.Packed.{bits512}

-- how many bits a word of the code has; 0 where there is no such code
abbrev pub bits_by : Named → ℕ
bits_by (known c) = c.n
bits_by unknown = 0

-- decode_packed(c, words): the answer, and what stands packed beside it
abbrev pub DecodingPacked : ℕ → List ℕ → DecodedWord → List ℕ → Type 0
DecodingPacked c words answer after = Decoding c (take (bits_by (named c)) (bits512 words)) (replicate 512 0) answer (bits512 after)
