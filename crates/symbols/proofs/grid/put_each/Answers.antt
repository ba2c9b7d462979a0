-- `symbols::grid::put_each` meets its contract: what is written so far, then the levels of the other sub-carriers.
-- Assumes nothing.
use mathlib.Core.Path.{◌≡◌, sym, ◌∙◌}
use mathlib.Core.List.{List, ◌++◌, append-nil, append_assoc}
use Prim.Native.Nat.{ℕ, suc, ◌+◌, ◌-◌, ◌≤◌, ◌<◌}
use native.Mathlib.Omega.{arith}
use native.Mathlib.Numerals.{add-one}
use lib.IntN.{ℤ}
use lib.ListN.{length, set, take, length-set}
use lib.Seq.{take_all, take-suc-set}
use mir.Syntax.{w16}
use mir.Val.{to_z, of_z}
use mir.ValLaws.{to_z-of_z}
use Rattle.symbols.specs.Grid.{carrier_at}
use Rattle.symbols.specs.Grids.{level_on, levels_from}
use Rattle.symbols.proofs.grid.put_each.Goals as goal

-- a turn: the level of sub-carrier k is written
turn : (levels out : List ℤ) (n k : ℕ) → k < n → k < length out
    → take (k + 1) (set out k (level_on levels (carrier_at k))) ++ levels_from levels (k + 1) (n - (k + 1)) ≡ take k out ++ levels_from levels k (n - k)
unfolding levels_from
turn levels out n k h l =
    let m : n - k ≡ suc (n - suc k) = omega arith in
    rw (m, add-one, take-suc-set out k (level_on levels (carrier_at k)) l, append_assoc)

done : (levels out : List ℤ) (n k : ℕ) → length out ≤ k → n ≤ k → out ≡ take k out ++ levels_from levels k (n - k)
unfolding levels_from
done levels out n k l h =
    let m : n - k ≡ 0 = omega arith in
    rw (m, take_all k out l) (sym (append-nil out))

pub loop-k-preserved : goal.loop-k-preserved
loop-k-preserved c =
    let l = c.loop-k in
    let levels = c.args.levels.now in
    let v : to_z w16 (of_z w16 c.level_on.result) ≡ level_on levels (carrier_at l.k) = to_z-of_z w16 _ (record { sfits = c.level_on.type_inv }) ∙ c.level_on.ensures in
    (simp length-set l.invariant.0, rw v (turn levels l.out (length c.args.out.now) l.k (omega arith) (omega arith)) ∙ l.invariant.1)

pub returns : goal.returns
returns c =
    let l = c.loop-k in
    done c.args.levels.now l.out (length c.args.out.now) l.k (omega arith) (omega arith) ∙ l.invariant.1
