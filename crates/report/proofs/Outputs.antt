-- The lines for what comes of a frame of each length, letter for letter.
-- Assumes nothing.
use mathlib.Core.Path.{◌≡◌, refl}
use mathlib.Core.Bool.{Bool, true, false, cond}
use Prim.Native.Nat.{ℕ, ◌≤◌}
use native.Mathlib.Decide.{ℕ_discrete}
use native.Mathlib.Omega.{arith}
use borrow.Author.Tests.{eq-eqb, ne_eqb}
use lib.Dec.{eqb}
use lib.ListN.{length}
use Rattle.std.specs.Fmt.{digits}
use Rattle.report.specs.Lines.{ascii, lines_of}
use Rattle.report.specs.Made.{accepted_lines, refused_line, answer_lines, mode_for, trip_of}

pub mode_known : (n : ℕ) → mode_for n ≤ 1
mode_known n = by (ℕ_discrete n 94)
  where
    by : Dec (n ≡ 94) → mode_for n ≤ 1
    by (yes e) = rw (eq-eqb n 94 e) (omega arith)
    by (no d) = rw (ne_eqb n 94 d) (omega arith)

-- the three texts
coded : accepted_lines 58 0 0 ≡ ascii "payload A 58 bytes\ncorrected 0 protected 0 check ok\n"
unfolding accepted_lines digits ascii
coded = refl

uncoded : accepted_lines 94 0 0 ≡ ascii "payload A 94 bytes\ncorrected 0 protected 0 check ok\n"
unfolding accepted_lines digits ascii
uncoded = refl

refused : refused_line 2 0 ≡ ascii "refused 2 place 0\n"
unfolding refused_line digits ascii
refused = refl

pub lines_are : (n : ℕ) → answer_lines n (trip_of (mode_for n) n) ≡ lines_of n
unfolding lines_of
lines_are n = by (ℕ_discrete n 58) (ℕ_discrete n 94)
  where
    by : Dec (n ≡ 58) → Dec (n ≡ 94) → answer_lines n (trip_of (mode_for n) n) ≡ lines_of n
    by (yes e) _ = rw e coded
    by (no d) (yes e) = rw e uncoded
    by (no d) (no f) = rw (ne_eqb n 94 f, ne_eqb n 58 d) refused

pub lines_short : (n : ℕ) → length (lines_of n) ≤ 128
unfolding lines_of ascii
lines_short n = by (eqb n 58) (eqb n 94)
  where
    by : (a b : Bool)
        → length (cond a (ascii "payload A 58 bytes\ncorrected 0 protected 0 check ok\n")
        (cond b (ascii "payload A 94 bytes\ncorrected 0 protected 0 check ok\n") (ascii "refused 2 place 0\n"))) ≤ 128
    by true b = omega arith
    by false true = omega arith
    by false false = omega arith
