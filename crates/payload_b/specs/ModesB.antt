-- The modes of Payload B by their numbers, in which everything else is said.
-- Assumes nothing.
use Rattle.std.specs.Prelude.{◌≡◌, cond, ℕ, ◌<◌, eqb, Result, MatchResult}
use Rattle.answers.specs.declared.Refusal.{Refusal}
use Rattle.answers.specs.declared.Refusal.TheVariants.{Unknown}
use Rattle.payload_b.specs.declared.mode.ModeB.{ModeB}
use Rattle.payload_b.specs.declared.mode.ModeB.TheVariants.{Uncoded, Code1, Code2}

-- the number of a mode; of a coded one it is also that of its code
abbrev pub number_of : ModeB → ℕ
number_of Uncoded = 0
number_of Code1 = 1
number_of Code2 = 2

-- the mode of a number; of one that no mode has, the last
abbrev pub mode_of : ℕ → ModeB
mode_of n = cond (eqb n 0) Uncoded (cond (eqb n 1) Code1 Code2)

-- the mode that has the number; of one that no mode has, refusal 1
abbrev pub Numbers : ℕ → Result ModeB Refusal → Type 0
Numbers n r = MatchResult r (λ mode. number_of mode ≡ n) (λ why. (why ≡ Unknown) × (2 < n))
