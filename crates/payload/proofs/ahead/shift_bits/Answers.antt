-- `payload::ahead::shift_bits` meets its contract: fourteen formed bits after the other, and the few that are left.
-- Assumes nothing.
use Rattle.std.proofs.Common.{◌≡◌, refl, ap, ◌∙◌, ℕ, ◌+◌, ◌*◌, ◌%◌}
use native.Mathlib.Omega.{arith}
use Rattle.payload.specs.Scrambler.{register_after}
use Rattle.payload.proofs.Forming.{register_behind}
use Rattle.payload.proofs.Periods.{register_below}
use Rattle.payload.proofs.ahead.shift_bits.Goals as goal

pub loop-init : goal.loop-init
unfolding register_after
loop-init c = (omega arith, refl)

pub loop-preserved : goal.loop-preserved
loop-preserved c =
    let l = c.loop in
    let r = c.args.register in
    let after = c.shift14-s.ensures in
    let sum : 14 * l.counter + 14 ≡ 14 * (l.counter + 1) = omega arith in (
      rw after (register_below 14 l.s l.invariant.0),
      register_behind (14 * l.counter) 14 r l.s _ l.invariant.1 after ∙ ap (λ (k : ℕ). register_after k r) sum,
    )

pub shift_few-requires : goal.shift_few-requires
shift_few-requires c = (omega (arith, c.loop.invariant.0), omega arith)

pub returns : goal.returns
returns c =
    let l = c.loop in
    let r = c.args.register in
    let sum : 14 * l.counter + c.args.bits % 14 ≡ c.args.bits = omega arith in
    register_behind (14 * l.counter) (c.args.bits % 14) r l.s _ l.invariant.1 c.shift_few.ensures ∙ ap (λ (k : ℕ). register_after k r) sum
