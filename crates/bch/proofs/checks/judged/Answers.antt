-- `bch::checks::judged` meets its contract: the checks stand in document 01's order.
-- Assumes nothing.
use mathlib.Core.Path.{◌≡◌, refl, ◌∙◌}
use Prim.Native.Nat.{ℕ}
use Rattle.std.specs.Prelude.{Option, Some, None, Ok, ok_or}
use Rattle.answers.specs.Checks.{passes}
use Rattle.answers.specs.declared.Refusal.{Refusal}
use Rattle.answers.specs.declared.Refusal.TheVariants.{Unknown}
use Rattle.bits.proofs.Digits.{all_bits}
use Rattle.bch.specs.Held.{Holds, code_of, size_of}
use Rattle.bch.specs.declared.code.Held.{Held}
use Rattle.bch.proofs.Verdicts.{all_pass}
use Rattle.bch.proofs.checks.judged.Goals as goal

-- where there is a code, it is the one of the number
found : (number : ℕ) (r : Option Held) (h : Held) (why : Refusal) → Ok h ≡ ok_or r why → Holds number r → Holds number (Some h)
found number (Some g) h why e holds = let same : h ≡ g = cc e in rw same holds
found number None h why e holds = absurd (cc e)

pub returns : goal.returns
returns c =
    let s = c.args in
    let h = c.in_ok-c.c in
    let holds = found s.code c.of_number.result h Unknown c.in_ok-c.ensures.value c.of_number.ensures in
    let none = rw c.first_bad-bad.ensures at c.if-bad-word.false in
    let long = c.if-word-size.false ∙ c.size.ensures in (
      record { sound = holds.0; bits = all_bits s.word.now none; long = long; room = c.if-out-c.false },
      rw holds.1 (all_pass (λ k. k ≡ passes (code_of h)) (size_of s.whole) s.word.now s.out.now (code_of h) long c.if-out-c.false none refl),
    )
