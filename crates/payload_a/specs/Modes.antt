-- The modes of Payload A and their numbers.
-- Assumes nothing.
use Rattle.std.specs.Prelude.{◌≡◌, ℕ, ◌<◌, Result, MatchResult}
use Rattle.answers.specs.declared.Refusal.{Refusal}
use Rattle.answers.specs.declared.Refusal.TheVariants.{Unknown}
use Rattle.payload_a.specs.declared.mode.ModeA.{ModeA}
use Rattle.payload_a.specs.declared.mode.ModeA.TheVariants.{Uncoded, Coded}

-- mode 0 is uncoded, mode 1 is coded
abbrev pub number_of : ModeA → ℕ
number_of Uncoded = 0
number_of Coded = 1

-- the mode with this number, or refusal 1, where no mode has it
abbrev pub Known : ℕ → Result ModeA Refusal → Type 0
Known number r = MatchResult r (λ mode. number_of mode ≡ number) (λ why. (why ≡ Unknown) × (1 < number))
