-- What encode_packed promises: what encode promises of the information's bits (bch/specs/Promise), with a list of 512 zeros lent, which comes back packed.
-- Assumes nothing.
use Rattle.std.specs.Prelude.{List, ℕ, take, replicate}
use Rattle.bch.specs.Codes.{Named, known, unknown, named}
use Rattle.bch.specs.Promise.{Encoding}
use Rattle.packed.specs.Packed.{bits512}
use Rattle.answers.specs.Answers.{Written}

-- how many bits of information a word of the code has; 0 where there is no such code
abbrev pub information_by : Named → ℕ
information_by (known c) = c.k
information_by unknown = 0

-- encode_packed(c, words): the answer, and what stands packed beside it
abbrev pub EncodingPacked : ℕ → List ℕ → Written → List ℕ → Type 0
EncodingPacked c words answer after = Encoding c (take (information_by (named c)) (bits512 words)) (replicate 512 0) answer (bits512 after)
