-- `bridge::ortkaveq_open_b` meets its contract: the payload's promise, told, and the state in the caller's memory.
-- Assumes nothing.
use mathlib.Core.Path.{ap, ◌∙◌}
use native.Mathlib.Omega.{arith}
use Rattle.bridge.specs.Calls.{answer_of, OpenBCall}
use Rattle.bridge.proofs.Counts.{few_opened}
use Rattle.bridge.proofs.ortkaveq_open_b.Goals as goal

pub answer_of-requires : goal.answer_of-requires
answer_of-requires c =
    let few = few_opened c.open_b-state.result.course in
    rw c.told.ensures (omega (arith, few.mended))

pub returns : goal.returns
returns c =
    let call = c.open_b-state in
    let made : OpenBCall c.args.mode c.args.size c.args.scheme.now c.answer_of.result c.hold.new.out = record {
      state = call.result;
      promise = call.ensures;
      told = c.answer_of.ensures ∙ ap answer_of c.told.ensures;
      left = c.hold.ensures.0;
      found = c.hold.ensures.1;
    } in
    made
