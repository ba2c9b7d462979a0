-- `bridge::ortkaveq_receive_a` meets its contract: the payload's promise, told.
-- Assumes nothing.
use mathlib.Core.Path.{refl, ap, ◌∙◌}
use native.Mathlib.Omega.{arith}
use Rattle.bridge.specs.Calls.{received_of, ReceiveACall}
use Rattle.bridge.proofs.Counts.{few_received_a}
use Rattle.bridge.proofs.ortkaveq_receive_a.Goals as goal

pub all_told-requires : goal.all_told-requires
all_told-requires c =
    let s = c.args in
    let call = c.receive_a-received in
    let few = few_received_a s.area.now call.result call.new.area s.mode s.i.now s.q.now call.ensures in
    rw c.from.ensures (omega (arith, few.mended), omega (arith, few.protected), omega (arith, few.worst))

pub returns : goal.returns
returns c =
    let s = c.args in
    let call = c.receive_a-received in
    let made : ReceiveACall s.mode s.i.now s.q.now s.area.now c.all_told.result call.new.area
    call.result.first call.result.second = record {
      answer = call.result;
      promise = call.ensures;
      told = c.all_told.ensures ∙ ap received_of c.from.ensures;
      first_list = refl;
      second_list = refl;
    } in
    made
