-- `bridge::ortkaveq_step_b` meets its contract: the payload's promise, told, and the state after in the caller's memory; or it held none before.
-- Assumes nothing.
use mathlib.Core.Path.{◌≡◌, subst, ap, ◌∙◌}
use mathlib.Core.Logic.{inl}
use mathlib.Core.List.{List, ◌++◌}
use Prim.Native.Nat.{ℕ, ◌^◌, ◌<◌}
use native.Mathlib.Omega.{arith}
use lib.ListN.{length, get_or, take, drop, length-drop}
use lib.Seq.{length-take-le}
use mir.Syntax.{w64}
use mir.Val.{Fits}
use Rattle.payload_b.specs.StreamB.{with_scheme, SteppingB}
use Rattle.bridge.specs.Calls.{received_of, StepsOn}
use Rattle.bridge.specs.Streams.{spread, numbers_of, lent_of, state_of}
use Rattle.bridge.proofs.Counts.{few_stepped}
use Rattle.bridge.proofs.Holdings.{state_of_lem, held_after}
use borrow.Author.Rules.{rules}
use Rattle.bridge.proofs.ortkaveq_step_b.Goals as goal

pub all_told-requires-2 : goal.all_told-requires-2
all_told-requires-2 c =
    let a = c.args in
    let moved = c.step_lent-moved in
    let bytes = a.stream.now in
    let left = with_scheme (take 210 (drop 136 bytes)) moved.result.moving in
    let stepped : SteppingB (state_of bytes) a.i.now a.q.now a.area.now moved.result.answer left moved.new.area
    = rw c.in-Some.ensures.0 at moved.ensures in
    let few = few_stepped (state_of bytes) a.i.now a.q.now a.area.now moved.result.answer left moved.new.area stepped in
    rw c.from-2.ensures (omega (arith, few.mended), omega (arith, few.protected), omega (arith, few.worst))

pub returns : goal.returns
returns c =
    let a = c.args in
    let moved = c.step_lent-moved in
    let bytes = a.stream.now in
    let lent = take 210 (drop 136 bytes) in
    let left = with_scheme lent moved.result.moving in
    let stepped : SteppingB (state_of bytes) a.i.now a.q.now a.area.now moved.result.answer left moved.new.area
    = rw c.in-Some.ensures.0 at moved.ensures in
    let long : length bytes ≡ 352 = search rules in
    let scheme_long : length lent ≡ 210 = length-take-le 210 (drop 136 bytes) (omega (arith, long, length-drop 136 bytes)) in
    let so = c.in-Some.ensures.1 in
    let fit : (k : ℕ) → get_or (numbers_of moved.result.moving) k 0 < 2 ^ 64 =
    λ k.
    let one : Fits w64 (get_or c.numbers_of.result k 0) = search rules in
    subst (λ (xs : List ℕ). get_or xs k 0 < 2 ^ 64) c.numbers_of.ensures.0 one.fits in
    let stream : c.put_numbers.new.out ≡ lent_of left =
    c.put_numbers.ensures
    ∙ ap (λ (xs : List ℕ). spread 17 (λ k. get_or xs k 0) ++ drop 136 bytes) c.numbers_of.ensures.0
    ∙ held_after bytes long moved.result.moving so in
    let made : StepsOn bytes a.i.now a.q.now a.area.now c.all_told-2.result c.put_numbers.new.out moved.new.area = record {
      holds = so;
      answer = moved.result.answer;
      state = left;
      promise = stepped;
      told = c.all_told-2.ensures ∙ ap received_of c.from-2.ensures;
      left = stream;
      found = ap state_of stream ∙ state_of_lem left scheme_long c.numbers_of.ensures.1 fit;
    } in
    inl made
