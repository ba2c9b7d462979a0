-- A number and a place name one course, which tells them if any does.
-- Assumes nothing.
use mathlib.Core.Path.{◌≡◌, refl, sym, ap, ap₂, ◌∙◌}
use Prim.Native.Nat.{ℕ}
use Rattle.answers.specs.Answers.{refused}
use Rattle.answers.specs.declared.Told.{Told}
use Rattle.answers.proofs.Telling.{because_is}
use Rattle.payload_b.specs.Courses.{told_of, course_of}
use Rattle.payload_b.specs.declared.stream.Course.{Course}
use Rattle.payload_b.specs.declared.stream.Course.TheVariants.{Open, Refused}
use Rattle.payload_b.proofs.Courses.{course_of_lem}

-- a course tells its number and place, and no counts
course_is : (course : Course) → told_of course ≡ refused (told_of course).number (told_of course).place
course_is Open = refl
course_is (Refused why) = because_is why

module _ (named : Course) (t : Told) (number place : ℕ) (told : t ≡ told_of named) where
  -- where a course tells number and place, the one that is named does
  pub named_tells : named ≡ course_of number place → (course : Course) → told_of course ≡ refused number place → t ≡ refused number place
  named_tells only course e =
      let same : course_of number place ≡ course = sym (ap (λ (t : Told). course_of t.number t.place) e) ∙ course_of_lem course in
      told ∙ ap told_of (only ∙ same) ∙ e

  -- it does where its number and place are these
  pub tells : t.number ≡ number → t.place ≡ place → told_of named ≡ refused number place
  tells n p = course_is named ∙ ap₂ refused (sym (ap (λ (t : Told). t.number) told) ∙ n) (sym (ap (λ (t : Told). t.place) told) ∙ p)
