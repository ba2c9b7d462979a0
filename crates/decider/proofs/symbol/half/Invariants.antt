-- `decider::symbol::half` meets its contract: the levels so far are those of the points decided.
-- Assumes nothing.
use mathlib.Core.List.{List, []}
use Prim.Native.Nat.{ℕ, ◌+◌}
use lib.ListN.{get_or}
use Rattle.points.specs.declared.Point.{Point}
use Rattle.points.specs.Constellations.{level_i, level_q}
use Rattle.decider.specs.Parts.{FirstDecided}
use Rattle.decider.proofs.symbol.half.Given as goal

-- the tables from the first one on
abbrev pub from : List (List Point) → ℕ → ℕ → List Point
from tables first s = get_or tables (first + s) []

abbrev pub invariant-loop-s : goal.invariant-loop-s
invariant-loop-s g l =
    let table = from (g.T.Tables.one l.tables) l.first in
    FirstDecided level_i table l.i l.q l.s l.oi × FirstDecided level_q table l.i l.q l.s l.oq
