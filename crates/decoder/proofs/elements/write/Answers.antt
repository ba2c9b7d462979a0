-- `decoder::elements::write` meets its contract: each place listed is one of the word's, and its bit is flipped.
-- Assumes nothing.
use mathlib.Core.Path.{◌≡◌}
use native.Mathlib.Numerals.{add-one}
use native.Mathlib.Omega.{arith}
use Rattle.decoder.proofs.Flippings.{front_copied, front_bit, front_more}
use Rattle.decoder.proofs.elements.write.Goals as goal

pub loop-j-init : goal.loop-j-init
loop-j-init c =
    front_copied _ _ _ c.requires.bits.1 (c.put_front.ensures.there c.requires.bits.1)

pub overflow_sub-out : goal.overflow_sub-out
overflow_sub-out c =
    let loop = c.loop-j in
    let inside = c.requires.count_in_bounds.1 loop.j (omega arith) in
    omega (arith, rw (← c.from-p.ensures) at (front_bit _ _ _ loop.out loop.j (omega arith) inside loop.invariant c.requires.bits.0))

pub loop-j-preserved : goal.loop-j-preserved
loop-j-preserved c =
    let loop = c.loop-j in
    let inside = c.requires.count_in_bounds.1 loop.j (omega arith) in
    rw (add-one, c.from-p.ensures) (front_more _ _ _ loop.out loop.j (omega arith) inside loop.invariant)

pub returns : goal.returns
returns c =
    let e : c.loop-j.j ≡ c.args.count = omega arith in
    rw (← e) c.loop-j.invariant.is
