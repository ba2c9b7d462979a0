-- `bridge::ortkaveq_send_a` meets its contract: the payload's promise, told.
-- Assumes nothing.
use mathlib.Core.Path.{ap, ◌∙◌}
use native.Mathlib.Omega.{arith}
use Rattle.bridge.specs.Calls.{answer_of, SendACall}
use Rattle.bridge.proofs.Counts.{few_written}
use Rattle.bridge.proofs.ortkaveq_send_a.Goals as goal

pub answer_of-requires : goal.answer_of-requires
answer_of-requires c =
    let few = few_written c.send_a.result in
    rw c.from.ensures (omega (arith, few.mended))

pub returns : goal.returns
returns c =
    let s = c.args in
    let call = c.send_a in
    let made : SendACall s.mode s.frame.now s.i.now s.q.now c.answer_of.result call.new.i call.new.q = record {
      answer = call.result;
      promise = call.ensures;
      told = c.answer_of.ensures ∙ ap answer_of c.from.ensures;
    } in
    made
