-- `bridge::ortkaveq_encode` meets its contract: the codes' promise, told.
-- Assumes nothing.
use mathlib.Core.Path.{ap, ◌∙◌}
use native.Mathlib.Omega.{arith}
use Rattle.bridge.specs.Calls.{answer_of, EncodeCall}
use Rattle.bridge.proofs.Counts.{few_written}
use Rattle.bridge.proofs.ortkaveq_encode.Goals as goal

pub answer_of-requires : goal.answer_of-requires
answer_of-requires c =
    let few = few_written c.encode.result in
    rw c.from.ensures (omega (arith, few.mended))

pub returns : goal.returns
returns c =
    let s = c.args in
    let call = c.encode in
    let made : EncodeCall s.code s.word.now s.out.now c.answer_of.result call.new.out = record {
      answer = call.result;
      promise = call.ensures;
      told = c.answer_of.ensures ∙ ap answer_of c.from.ensures;
    } in
    made
