-- How the lines are made, which is what the private functions promise one another: the lines for each answer.
-- The promise of the report rests on nothing here.
-- Assumes nothing.
use Rattle.std.specs.Prelude.{◌≡◌, cond, List, ◌++◌, ℕ, ◌+◌, ◌≤◌, eqb, length, decimal}
use Rattle.payload_a.specs.CodedA.{bytes_a}
use Rattle.answers.specs.Answers.{accepted, refused}
use Rattle.answers.specs.declared.Told.{Told}
use Rattle.report.specs.declared.Text.{Text}
use Rattle.report.specs.Lines.{ascii, text_of}

-- the two lines for a frame that was received
unfoldable pub accepted_lines : ℕ → ℕ → ℕ → List ℕ
accepted_lines bytes mended differing =
    ascii "payload A " ++ decimal bytes ++ ascii " bytes\ncorrected " ++ decimal mended ++ ascii " protected " ++ decimal differing ++ ascii " check ok\n"

-- the line for a refusal
unfoldable pub refused_line : ℕ → ℕ → List ℕ
refused_line number place = ascii "refused " ++ decimal number ++ ascii " place " ++ decimal place ++ ascii "\n"

-- the lines for what an answer tells
abbrev pub answer_lines : ℕ → Told → List ℕ
answer_lines bytes t = cond (eqb t.number 0) (accepted_lines bytes t.mended t.protected) (refused_line t.number t.place)

-- the mode for a frame of n bytes: mode 1 refuses all but 58
abbrev pub mode_for : ℕ → ℕ
mode_for n = cond (eqb n 94) 0 1

-- what comes of sending a frame of n bytes and receiving it back
abbrev pub trip_of : ℕ → ℕ → Told
trip_of mode n = cond (eqb n (bytes_a mode)) (accepted 0 0 0) (refused 2 0)

-- a text with room for n bytes more
pub record Room (n : ℕ) (t : Text) : Type 0 where
  pub held : List ℕ
  pub is : t ≡ text_of held
  pub short : length held + n ≤ 128
