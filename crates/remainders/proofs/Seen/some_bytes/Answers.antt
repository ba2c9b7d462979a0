-- `remainders::Seen::some_bytes` meets its contract: what is left of the zeros is taken in after what the register has taken.
-- Assumes nothing.
use mathlib.Core.Path.{◌≡◌, ap, ◌∙◌}
use Prim.Native.Nat.{ℕ, ◌+◌, ◌-◌, ◌*◌, ◌^◌}
use native.Mathlib.Omega.{arith}
use lib.Bits.{bit_xor}
use Rattle.bch.specs.Registers.{contents}
use Rattle.remainders.specs.Seen.{seen}
use Rattle.remainders.specs.Taking.{turns_by, bytes_by}
use Rattle.remainders.proofs.Turns.{turns_turn, turns_last, turns_end}
use Rattle.remainders.proofs.Seen.some_bytes.Goals as goal

pub loop-preserved : goal.loop-preserved
loop-preserved c =
    let l = c.loop in
    let a = c.args in
    let table = seen a.self.now in
    let next : 2 * (l.counter + 1) ≡ 2 * l.counter + 2 = omega arith in
    ap (λ (j : ℕ). turns_by table (a.n - j) (contents c.turn16-s.result)) next ∙ ap (turns_by table (a.n - (2 * l.counter + 2))) c.turn16-s.ensures
    ∙ turns_turn table a.n (2 * l.counter) (contents l.s) (omega arith) ∙ l.invariant

pub returns-then-n-eq1 : goal.returns-then-n-eq1
unfolding bytes_by
returns-then-n-eq1 c =
    let l = c.loop in
    let a = c.args in
    let table = seen a.self.now in
    let added = c.plus_top-s.ensures ∙ ap (λ (b : ℕ). bit_xor (contents a.r) (b * 2 ^ 128)) c.first_bytes.ensures in
    c.turn8.ensures ∙ turns_last table a.n (2 * l.counter) (contents l.s) (omega arith) (omega arith) ∙ l.invariant ∙ ap (turns_by table a.n) added

pub returns-else-n-eq1 : goal.returns-else-n-eq1
unfolding bytes_by
returns-else-n-eq1 c =
    let l = c.loop in
    let a = c.args in
    let table = seen a.self.now in
    let added = c.plus_top-s.ensures ∙ ap (λ (b : ℕ). bit_xor (contents a.r) (b * 2 ^ 128)) c.first_bytes.ensures in
    turns_end table a.n (2 * l.counter) (contents l.s) (omega arith) ∙ l.invariant ∙ ap (turns_by table a.n) added
