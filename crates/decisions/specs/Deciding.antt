-- What deciding promises, for Payload A and for Payload B: for every mode, length, scheme, grid and lent list, the answer and what the lent lists hold after.
-- Its checks are those of the job it serves, and 3 is for all four lists.
-- Assumes nothing.
use Rattle.std.specs.Prelude.{◌≡◌, cond, ◌&&◌, List, ◌++◌, ℕ, ◌*◌, leb, ℤ, drop}
use Rattle.answers.specs.Answers.{accepted, refused, of_written, Written}
use Rattle.answers.specs.Checks.{Checked, fails, passes}
use Rattle.points.specs.declared.Point.{Point}
use Rattle.points.specs.Constellations.{level_i, level_q}
use Rattle.symbols.specs.Grid.{sub_carriers}
use Rattle.symbols.specs.Grids.{room}
use Rattle.symbols.specs.Schemes.{repeated}
use Rattle.payload_a.specs.PromiseA.{point_count_a}
use Rattle.payload_b.specs.CodedB.{symbols_for}
use Rattle.payload_b.specs.PromiseB.{planned}
use Rattle.decisions.specs.Decided.{phase_tables, scheme_tables, decided_levels}

-- check 3 over m OFDM symbols: the two lists read and the two written
abbrev pub room_checked : ℕ → List ℤ → List ℤ → List ℤ → List ℤ → Checked Unit
room_checked m is qs out_i out_q = cond (room (sub_carriers * m) is qs && room (sub_carriers * m) out_i out_q) (passes tt) (fails 3 0)

abbrev pub decide_checked_a : ℕ → List ℤ → List ℤ → List ℤ → List ℤ → Checked Unit
decide_checked_a mode is qs out_i out_q = cond (leb mode 1) (room_checked 2 is qs out_i out_q) (fails 1 0)

abbrev pub decide_checked_b : ℕ → ℕ → List ℕ → List ℤ → List ℤ → List ℤ → List ℤ → Checked Unit
decide_checked_b mode n scheme is qs out_i out_q = planned mode n scheme (room_checked (symbols_for mode n scheme) is qs out_i out_q)

-- m OFDM symbols by the tables of their points
abbrev pub Decides : Checked Unit → List (List Point) → ℕ → List ℤ → List ℤ → List ℤ → List ℤ → Written → List ℤ → List ℤ → Type 0
Decides (fails number place) tables m is qs out_i out_q answer out_i' out_q' = (of_written answer ≡ refused number place) × (out_i' ≡ out_i) × (out_q' ≡ out_q)
Decides (passes _) tables m is qs out_i out_q answer out_i' out_q' =
    (of_written answer ≡ accepted 0 0 0)
    × (out_i' ≡ decided_levels level_i tables m is qs ++ drop (sub_carriers * m) out_i)
    × (out_q' ≡ decided_levels level_q tables m is qs ++ drop (sub_carriers * m) out_q)

-- decide A(mode, I, Q, out I, out Q): the answer, and out I and out Q after
abbrev pub DecidingA : ℕ → List ℤ → List ℤ → List ℤ → List ℤ → Written → List ℤ → List ℤ → Type 0
DecidingA mode is qs out_i out_q = Decides (decide_checked_a mode is qs out_i out_q) (phase_tables point_count_a) 2 is qs out_i out_q

-- decide B(mode, frame length, scheme, I, Q, out I, out Q): the answer, and out I and out Q after
abbrev pub DecidingB : ℕ → ℕ → List ℕ → List ℤ → List ℤ → List ℤ → List ℤ → Written → List ℤ → List ℤ → Type 0
DecidingB mode n scheme is qs out_i out_q =
    Decides (decide_checked_b mode n scheme is qs out_i out_q) (scheme_tables (repeated (symbols_for mode n scheme) scheme)) (symbols_for mode n scheme) is qs out_i out_q
