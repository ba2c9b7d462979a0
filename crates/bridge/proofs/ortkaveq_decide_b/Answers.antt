-- `bridge::ortkaveq_decide_b` meets its contract: deciding's promise, told.
-- Assumes nothing.
use mathlib.Core.Path.{ap, ◌∙◌}
use native.Mathlib.Omega.{arith}
use Rattle.bridge.specs.Calls.{answer_of, DecideBCall}
use Rattle.bridge.proofs.Counts.{few_written}
use Rattle.bridge.proofs.ortkaveq_decide_b.Goals as goal

pub answer_of-requires : goal.answer_of-requires
answer_of-requires c =
    let few = few_written c.decide_b.result in
    rw c.from.ensures (omega (arith, few.mended))

pub returns : goal.returns
returns c =
    let s = c.args in
    let call = c.decide_b in
    let made : DecideBCall s.mode s.size s.scheme.now s.i.now s.q.now s.oi.now s.oq.now c.answer_of.result call.new.oi call.new.oq = record {
      answer = call.result;
      promise = call.ensures;
      told = c.answer_of.ensures ∙ ap answer_of c.from.ensures;
    } in
    made
