-- What the bench program writes for a frame of each length (document 01, "Bench program"), letter for letter.
-- Assumes nothing.
use Rattle.std.specs.Prelude.{◌≡◌, cond, List, [], ◌∷◌, ◌++◌, ℕ, ◌-◌, ◌≤◌, eqb, length, take, replicate}
use Prim.Native.Char.{code}
use Prim.Native.String.{String, [] as end, ◌∷◌ as letter}
use Rattle.report.specs.declared.Text.{Text}

-- the codes of a text's characters
unfoldable pub ascii : String → List ℕ
ascii end = []
ascii (letter c s) = code c ∷ ascii s

-- what is written for a frame of n bytes
unfoldable pub lines_of : ℕ → List ℕ
lines_of n =
    cond (eqb n 58) (ascii "payload A 58 bytes\ncorrected 0 protected 0 check ok\n")
    (cond (eqb n 94) (ascii "payload A 94 bytes\ncorrected 0 protected 0 check ok\n")
    (ascii "refused 2 place 0\n"))

-- bytes as a text holds them: their number, and zeros behind them
unfoldable pub text_of : List ℕ → Text
text_of bytes = record { bytes = bytes ++ replicate (128 - length bytes) 0; count = length bytes }

-- it counts bytes of its own. This follows from what it holds, and is stated so that a caller can lend them with no proof of its own
abbrev pub Counted : Text → Type 0
Counted text = (text.count ≤ length text.bytes) × (text.count ≡ length (take text.count text.bytes))
