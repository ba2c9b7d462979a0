-- Number and place of a stream: those of its refusal, or 0 and 0 where it is open.
-- Assumes nothing.
use Rattle.std.specs.Prelude.{cond, ℕ, eqb}
use Rattle.answers.specs.Answers.{accepted, because, refusal_at}
use Rattle.answers.specs.declared.Told.{Told}
use Rattle.payload_b.specs.declared.stream.Course.{Course}
use Rattle.payload_b.specs.declared.stream.Course.TheVariants.{Open, Refused}

abbrev pub told_of : Course → Told
told_of Open = accepted 0 0 0
told_of (Refused why) = because why

abbrev pub course_of : ℕ → ℕ → Course
course_of number place = cond (eqb number 0) Open (Refused (refusal_at number place))
