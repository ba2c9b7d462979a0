-- `decoder::search::marked` meets its contract: the zeros of the first w machine words are taken in.
-- Assumes nothing.
use mathlib.Core.Path.{◌≡◌}
use Prim.Native.Nat.{◌+◌, ◌*◌}
use native.Mathlib.Omega.{arith}
use Rattle.decoder.proofs.Marking.{placed_none}
use Rattle.decoder.proofs.LowestDigits.{holds_word}
use Rattle.decoder.proofs.search.marked.Goals as goal

pub loop-w-init : goal.loop-w-init
loop-w-init c = placed_none _ _

pub loop-w-preserved : goal.loop-w-preserved
loop-w-preserved c =
    let loop = c.loop-w in
    let e : 64 * (loop.w + 1) ≡ 64 * loop.w + 64 = omega arith in
    rw e (c.mark_row.ensures _ (holds_word _ loop.w) loop.invariant)
