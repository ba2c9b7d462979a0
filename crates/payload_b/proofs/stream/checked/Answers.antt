-- `payload_b::stream::checked` meets its contract: each test that fails says what is not known of the state.
-- Assumes nothing.
use native.Mathlib.Omega.{arith}
use Rattle.payload_b.proofs.StatesB.{seen_few}
use Rattle.payload_b.proofs.stream.checked.Goals as goal

pub overflow_mul-bits : goal.overflow_mul-bits
overflow_mul-bits c =
    let told = c.in-Ok.ensures.0 in
    rw told.1 (omega (arith, seen_few told.0 c.args.s.seen (rw told.1 at c.if-plan-s.false)))
