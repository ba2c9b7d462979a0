-- `roots::go_down` meets its contract: Horner's rule in x^3.
-- Assumes nothing.
use native.Mathlib.Omega.{arith}
use Rattle.roots.proofs.Horner.{reached_next}
use Rattle.roots.proofs.go_down.Goals as goal

pub loop-i-preserved : goal.loop-i-preserved
loop-i-preserved c =
    let loop = c.loop-i in (
      λ n h r. reached_next _ _ _ _ _ _ _ (loop.invariant.0 n h r) (omega arith) (omega arith) c.triple.ensures c.advance.ensures,
      c.advance.ensures.long,
    )
