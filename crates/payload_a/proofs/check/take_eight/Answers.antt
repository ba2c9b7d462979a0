-- `payload_a::check::take_eight` meets its contract: each entry of both tables is the remainder that it stands for.
-- Assumes nothing.
use native.Mathlib.Omega.{arith}
use Rattle.bits.specs.Words.{digits}
use Rattle.bits.specs.Remainders.{reduced, step, remainder_from, remainder}
use Rattle.payload_a.specs.declared.check.TheConstants.{LOWS, HIGHS}
use Rattle.payload_a.proofs.Halves.{half, eight_taken}
use Rattle.payload_a.proofs.check.take_eight.Goals as goal

pub returns : goal.returns
unfolding digits reduced step remainder_from remainder
returns c =
    let s = c.args in
    rw c.from.ensures (eight_taken (half 4 HIGHS tt) (half 0 LOWS tt) s.register s.b (omega arith) (omega arith))
