-- The tables of a scheme: the points of an entry are the table of its point.
-- Assumes nothing.
use mathlib.Core.Path.{◌≡◌, sym, ap, ◌∙◌}
use mathlib.Core.List.{List, []}
use Prim.Native.Nat.{ℕ}
use lib.ListN.{get_or, get_or-map}
use mir.Syntax.{w16}
use mir.ValLaws.{to_z-of_z}
use Rattle.points.specs.declared.Point.{Point}
use Rattle.points.specs.Constellations.{tables, columns, points}
use Rattle.nearest.specs.Nearest.{nearest}
use Rattle.decisions.specs.Decided.{scheme_tables}
use Rattle.decider.proofs.tables.SchemeTables.nearest.Goals as goal

entry_table : (scheme : List ℕ) (s : ℕ) → points (get_or scheme s 0) ≡ get_or (scheme_tables scheme) s []
unfolding points columns tables
entry_table scheme s = sym (get_or-map points scheme s 0)

pub returns : goal.returns
returns c =
    let i = to_z-of_z w16 c.args.i c.ranges.i in
    let q = to_z-of_z w16 c.args.q c.ranges.q in
    rw (c.entries.ensures, i, q) at c.point.ensures
    ∙ ap (λ (table : List Point). nearest table c.args.i c.args.q) (entry_table c.args.self.entries.now c.args.s)
