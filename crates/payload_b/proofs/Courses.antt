-- What a course tells says which course it is.
-- Assumes nothing.
use mathlib.Core.Path.{◌≡◌, refl, ap}
use Rattle.answers.proofs.Telling.{refusal_at_lem, numbered}
use Rattle.payload_b.specs.Courses.{told_of, course_of}
use Rattle.payload_b.specs.declared.stream.Course.{Course}
use Rattle.payload_b.specs.declared.stream.Course.TheVariants.{Open, Refused}

pub course_of_lem : (c : Course) → course_of (told_of c).number (told_of c).place ≡ c
course_of_lem Open = refl
course_of_lem (Refused why) = rw (numbered why) (ap Refused (refusal_at_lem why))
