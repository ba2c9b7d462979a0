-- Number and place of a stream, as a state in bytes has them.
-- Assumes nothing.
use Rattle.std.specs.Prelude.{◌≡◌, ◌≢◌, ℕ, Option, None, Some}
use Rattle.answers.specs.Answers.{refused}
use Rattle.payload_b.specs.Courses.{told_of}
use Rattle.payload_b.specs.declared.stream.Course.{Course}

-- the course that tells number and place, or that there is none
abbrev pub Says : ℕ → ℕ → Option Course → Type 0
Says number place (Some course) = told_of course ≡ refused number place
Says number place None = (course : Course) → told_of course ≢ refused number place
