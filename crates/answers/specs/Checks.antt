-- What the checks of a job find, one after the other (document 01, "Refusal numbers").
-- Assumes nothing.
use Rattle.std.specs.Prelude.{ℕ}
use Rattle.answers.specs.Answers.{because}
use Rattle.answers.specs.declared.Refusal.{Refusal}

-- the number and place of the first that fails; or they pass, with what they found out
pub data Checked (A : Type 0) : Type 0 where
  fails : ℕ → ℕ → Checked A
  passes : A → Checked A

-- one fails, for this reason
abbrev pub failing : {A : Type 0} → Refusal → Checked A
failing why = fails (because why).number (because why).place
