-- `receiver_b::step_lent` meets its contract: an earlier refusal goes first, and then whether an opening and steps can give the state.
-- Assumes nothing.
use Rattle.payload_b.specs.StreamB.{with_scheme}
use Rattle.payload_b.proofs.StatesB.{sound_kept}
use Rattle.receiver_b.proofs.step_lent.Goals as goal

pub next-requires : goal.next-requires
next-requires c =
    let told = c.in-Some.ensures.0 in
    rw c.in-Some.ensures.1 (record { kept = sound_kept (with_scheme c.args.scheme.now c.args.from) told.0; far = told.1 })
