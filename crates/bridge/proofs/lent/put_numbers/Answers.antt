-- `bridge::lent::put_numbers` meets its contract: the numbers before k are written.
-- Assumes nothing.
use mathlib.Core.Path.{sym, ap, ◌∙◌}
use mathlib.Core.List.{List, ◌++◌}
use Prim.Native.Nat.{ℕ, ◌*◌, ◌+◌, ◌-◌}
use native.Mathlib.Omega.{arith}
use lib.ListN.{get_or}
use Rattle.bridge.proofs.Holds.{spread_none, spread_more}
use Rattle.bridge.proofs.lent.put_numbers.Goals as goal

pub loop-k-init : goal.loop-k-init
loop-k-init c = sym (ap (λ (xs : List ℕ). xs ++ c.args.out.now) (spread_none (λ j. get_or c.args.numbers.now j 0)))

pub loop-k-preserved : goal.loop-k-preserved
loop-k-preserved c =
    let l = c.loop-k in
    spread_more (λ j. get_or c.args.numbers.now j 0) c.args.out.now l.k l.out (8 * l.k + 8 - 8 * l.k) c.copy_from_slice.new.self
    l.invariant (omega arith) (c.copy_from_slice.ensures.after ∙ c.to_le_bytes.ensures)
