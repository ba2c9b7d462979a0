-- `bridge::ortkaveq_decode` meets its contract: the codes' promise, told.
-- Assumes nothing.
use mathlib.Core.Path.{refl, ap, ◌∙◌}
use native.Mathlib.Omega.{arith}
use Rattle.bridge.specs.Calls.{answer_of, DecodeCall}
use Rattle.bridge.proofs.Counts.{few_decoded}
use Rattle.bridge.proofs.ortkaveq_decode.Goals as goal

pub answer_of-requires : goal.answer_of-requires
answer_of-requires c =
    let s = c.args in
    let call = c.decode-decoded in
    let few = few_decoded s.word.now s.out.now call.result call.new.out s.code call.ensures in
    rw c.from.ensures (omega (arith, few.mended))

pub returns : goal.returns
returns c =
    let s = c.args in
    let call = c.decode-decoded in
    let made : DecodeCall s.code s.word.now s.out.now c.answer_of.result call.new.out call.result.places = record {
      answer = call.result;
      promise = call.ensures;
      told = c.answer_of.ensures ∙ ap answer_of c.from.ensures;
      list = refl;
    } in
    made
