-- `remainders::first_bytes` meets its contract: 64 places down and up again nothing is left.
-- Assumes nothing.
use mathlib.Core.Path.{◌≡◌, ap, ◌∙◌}
use Prim.Native.Nat.{ℕ, ◌-◌, ◌*◌, ◌/◌, ◌%◌, ◌^◌}
use native.Mathlib.Omega.{arith}
use Rattle.remainders.proofs.first_bytes.Goals as goal

pub returns-then-n-eq0 : goal.returns-then-n-eq0
returns-then-n-eq0 c =
    let a = c.args in
    let v = a.v in
    let none : 0 ≡ v / 2 ^ 64 * 2 ^ 64 % 2 ^ 64 = omega arith in
    let s : 64 ≡ 64 - 8 * a.n = omega arith in
    none ∙ ap (λ (k : ℕ). v / 2 ^ k * 2 ^ k % 2 ^ 64) s
