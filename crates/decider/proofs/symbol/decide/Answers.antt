-- `decider::symbol::decide` meets its contract: each half is decided by the tables that are its own.
-- Assumes nothing.
use mathlib.Core.Path.{◌≡◌, refl, ap}
use mathlib.Core.List.{List, []}
use Prim.Native.Nat.{ℕ, ◌+◌, ◌<◌}
use native.Mathlib.Omega.{arith}
use lib.ListN.{get_or}
use Rattle.points.specs.declared.Point.{Point}
use Rattle.points.specs.Constellations.{level_i, level_q}
use Rattle.decider.proofs.Halves.{symbol_decided}
use Rattle.decider.proofs.symbol.decide.Goals as goal

from_first : (tables : List (List Point)) (s : ℕ) → s < 105 → get_or tables (0 + s) [] ≡ get_or tables s []
from_first tables s h = ap (λ (t : ℕ). get_or tables t []) (omega arith)

pub returns : goal.returns
returns g c =
    let tables = g.T.Tables.one c.args.tables in
    let long = (g.met.T.Tables.grows c.args.tables).long in (
      symbol_decided level_i refl tables long c.args.i.now c.args.q.now c.args.oi.now _ _ _ c.requires.long_out_i (from_first tables) (λ s h. refl)
          c.half.ensures.all_i c.half-2.ensures.all_i c.clear_between.ensures,
      symbol_decided level_q refl tables long c.args.i.now c.args.q.now c.args.oq.now _ _ _ c.requires.long_out_q (from_first tables) (λ s h. refl)
          c.half.ensures.all_q c.half-2.ensures.all_q c.clear_between-2.ensures,
    )
