-- `bridge::ortkaveq_receive_b` meets its contract: the payload's promise, told.
-- Assumes nothing.
use mathlib.Core.Path.{ap, ◌∙◌}
use native.Mathlib.Omega.{arith}
use Rattle.bridge.specs.Calls.{received_of, ReceiveBCall}
use Rattle.bridge.proofs.Counts.{few_received_b}
use Rattle.bridge.proofs.ortkaveq_receive_b.Goals as goal

pub all_told-requires : goal.all_told-requires
all_told-requires c =
    let s = c.args in
    let call = c.receive_b in
    let few = few_received_b s.area.now call.result call.new.area s.mode s.size s.scheme.now s.i.now s.q.now
    call.ensures in
    rw c.from.ensures (omega (arith, few.mended), omega (arith, few.protected), omega (arith, few.worst))

pub returns : goal.returns
returns c =
    let s = c.args in
    let call = c.receive_b in
    let made : ReceiveBCall s.mode s.size s.scheme.now s.i.now s.q.now s.area.now c.all_told.result call.new.area = record {
      answer = call.result;
      promise = call.ensures;
      told = c.all_told.ensures ∙ ap received_of c.from.ensures;
    } in
    made
