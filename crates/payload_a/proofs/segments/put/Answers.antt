-- `payload_a::segments::put` meets its contract: the part from `at` on is as long as the bits, where there is room for them.
-- Assumes nothing.
use mathlib.Core.Path.{sym, ◌∙◌}
use Prim.Native.Nat.{◌+◌, ◌-◌, ◌≤◌}
use native.Mathlib.Omega.{arith}
use lib.ListN.{length}
use Rattle.bits.proofs.Copies.{put_part}
use Rattle.payload_a.proofs.Puttings.{put_none, put_there}
use Rattle.payload_a.proofs.segments.put.Goals as goal

pub returns-then-out-at : goal.returns-then-out-at
returns-then-out-at c = let a = c.args in put_none a.out.now a.bits.now a.at (omega arith)

pub returns-then-out-at-2 : goal.returns-then-out-at-2
returns-then-out-at-2 c = let a = c.args in put_none a.out.now a.bits.now a.at (omega arith)

pub returns : goal.returns
returns c =
    let a = c.args in
    let out = a.out.now in
    let bits = a.bits.now in
    let fits : a.at + length bits ≤ length out = omega arith in
    put_part out bits a.at fits (a.at + length bits - a.at) _ (omega arith) c.copy_from_slice.ensures.after
    ∙ sym (put_there out bits a.at fits)
