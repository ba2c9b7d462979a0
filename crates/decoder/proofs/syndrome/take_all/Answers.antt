-- `decoder::syndrome::take_all` meets its contract: what is left at the top is taken in after what the sums have taken.
-- Assumes nothing.
use mathlib.Core.Path.{◌≡◌, refl, ◌∙◌}
use Prim.Native.Nat.{◌+◌, ◌-◌, ◌*◌, ◌%◌}
use native.Mathlib.Omega.{arith}
use lib.Pow.{shr_lt}
use Rattle.bch.specs.Registers.{contents}
use Rattle.decoder.proofs.Horners.{taken_none, taken_eight, taken_few}
use Rattle.decoder.proofs.syndrome.take_all.Goals as goal

pub loop-init : goal.loop-init
loop-init c = let e : c.args.r - 8 * 0 ≡ c.args.r = omega arith in (refl, λ new u. rw e at u)

pub loop-preserved : goal.loop-preserved
loop-preserved c =
    let top8 = c.top8 in
    let loop = c.loop in
    let d = c.args.r - 8 * loop.counter in
    let e : c.args.r - 8 * (loop.counter + 1) ≡ d - 8 = omega arith in (
      c.take.ensures.long ∙ loop.invariant.0,
      λ new u. loop.invariant.1 new
          (taken_eight d top8.result (contents loop.rest) _ (omega arith) top8.ensures.0 c.up8-rest.ensures c.take.ensures (rw e at u)),
    )

pub take-requires-then-d-gt0 : goal.take-requires-then-d-gt0
take-requires-then-d-gt0 c =
    let d = c.args.r % 8 in
    let e : 8 ≡ d + (8 - d) = omega arith in
    let top = c.top8-then-d-gt0 in
    (omega arith, shr_lt d (8 - d) (rw (← e) top.ensures.1), omega (arith, c.loop.invariant.0))

pub returns-then-d-gt0 : goal.returns-then-d-gt0
returns-then-d-gt0 c =
    let top8 = c.top8-then-d-gt0 in
    let loop = c.loop in
    let e : c.args.r - 8 * loop.counter ≡ c.args.r % 8 = omega arith in
    loop.invariant.1 _ (rw e (taken_few (c.args.r % 8) top8.result (contents loop.rest) (omega arith) top8.ensures.0 c.take-then-d-gt0.ensures))

pub returns-else-d-gt0 : goal.returns-else-d-gt0
returns-else-d-gt0 c =
    let loop = c.loop in
    let e : c.args.r - 8 * loop.counter ≡ 0 = omega arith in
    loop.invariant.1 _ (rw e (taken_none (contents loop.rest) loop.sums))
