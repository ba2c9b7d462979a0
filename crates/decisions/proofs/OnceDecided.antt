-- The promise of deciding leaves one answer and one memory, for every mode, length, scheme, grid and lent list.
-- Assumes nothing.
use mathlib.Core.Path.{◌≡◌}
use mathlib.Core.List.{List}
use Prim.Native.Nat.{ℕ}
use lib.IntN.{ℤ}
use Rattle.answers.specs.Checks.{Checked, fails, passes}
use Rattle.answers.proofs.Telling.{written_same}
use Rattle.points.specs.declared.Point.{Point}
use Rattle.symbols.specs.Schemes.{repeated}
use Rattle.payload_a.specs.PromiseA.{point_count_a}
use Rattle.payload_b.specs.CodedB.{symbols_for}
use Rattle.decisions.specs.Decided.{phase_tables, scheme_tables}
use Rattle.decisions.specs.Deciding.{decide_checked_a, decide_checked_b, Decides, DecidingA, DecidingB}
use Rattle.answers.specs.Answers.{Written}

module _ (is qs out_i out_q : List ℤ) (a b : Written) (i1 q1 i2 q2 : List ℤ) where
  -- whatever the checks find and the tables are
  one_decided : (k : Checked Unit) (tables : List (List Point)) (m : ℕ) → Decides k tables m is qs out_i out_q a i1 q1
      → Decides k tables m is qs out_i out_q b i2 q2 → (a ≡ b) × (i1 ≡ i2) × (q1 ≡ q2)
  one_decided (fails number place) tables m p q = (written_same a b (cc), cc, cc)
  one_decided (passes _) tables m p q = (written_same a b (cc), cc, cc)

  -- decide A
  pub decide_a_once : (mode : ℕ) → DecidingA mode is qs out_i out_q a i1 q1 → DecidingA mode is qs out_i out_q b i2 q2 → (a ≡ b) × (i1 ≡ i2) × (q1 ≡ q2)
  decide_a_once mode = one_decided (decide_checked_a mode is qs out_i out_q) (phase_tables point_count_a) 2

  -- decide B
  pub decide_b_once : (mode n : ℕ) (scheme : List ℕ) → DecidingB mode n scheme is qs out_i out_q a i1 q1 → DecidingB mode n scheme is qs out_i out_q b i2 q2
      → (a ≡ b) × (i1 ≡ i2) × (q1 ≡ q2)
  decide_b_once mode n scheme =
      one_decided (decide_checked_b mode n scheme is qs out_i out_q) (scheme_tables (repeated (symbols_for mode n scheme) scheme)) (symbols_for mode n scheme)
