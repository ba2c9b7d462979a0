-- `symbols::grid::level_on` meets its contract: s is numbered from 1 to 210.
-- Assumes nothing.
use mathlib.Core.Path.{◌≡◌, sym, ap, ◌∙◌}
use mathlib.Core.List.{List, ◌∷◌}
use Prim.Native.Nat.{ℕ, zero, suc, ◌-◌, ◌≤◌}
use native.Mathlib.Omega.{arith}
use lib.IntN.{ℤ, pos}
use lib.ListN.{get_or}
use mir.Syntax.{w16}
use mir.ValLaws.{to_z-of_z}
use Rattle.symbols.proofs.Placement.{place_carrier}
use Rattle.symbols.specs.Grids.{level_on}
use Rattle.symbols.proofs.grid.level_on.Goals as goal

before : (levels : List ℤ) (n : ℕ) → 1 ≤ n → get_or levels (n - 1) (pos 0) ≡ get_or (pos 0 ∷ levels) n (pos 0)
before levels zero h = absurd (omega arith)
before levels (suc n) h = ap (λ (k : ℕ). get_or levels k (pos 0)) (omega arith)

pub overflow_sub-s : goal.overflow_sub-s
overflow_sub-s c = (place_carrier c.args.k c.in-Holds.s (sym c.carrier.ensures ∙ c.in-Holds.is)).1

pub returns-in-Holds : goal.returns-in-Holds
returns-in-Holds c =
    let levels = c.args.levels.now in
    let held = sym c.carrier.ensures ∙ c.in-Holds.is in
    to_z-of_z w16 c.level_at.result (record { sfits = c.level_at.type_inv }) ∙ c.level_at.ensures
    ∙ before levels c.in-Holds.s (place_carrier c.args.k c.in-Holds.s held).1 ∙ ap (level_on levels) (sym held)
