-- The laws of `sum`. They hold of all numbers, each standing for its nine low digits.
-- Assumes nothing.
use mathlib.Core.Path.{◌≡◌, ap, ap₂, ◌∙◌, sym}
use Prim.Native.Nat.{ℕ, ◌<◌}
use native.Mathlib.Nat.{mod-lt, mod-mod, mod-eq_of_lt}
use lib.Bits.{bit_xor, xor_comm, xor_self, xor_zero_r, xor_lt}
use lib.Dec.{lit<}
use Rattle.field.specs.Field.{element, sum}
use Rattle.ground.proofs.Xors.{xor_assoc}

pub sum_lt : (x y : ℕ) → sum x y < 512
unfolding sum
sum_lt x y = xor_lt 9 (element x) (element y) (mod-lt x (lit< tt)) (mod-lt y (lit< tt))

pub sum-element : (x y : ℕ) → sum (element x) (element y) ≡ sum x y
unfolding sum
sum-element x y = ap₂ bit_xor (mod-mod x 512) (mod-mod y 512)

pub sum_comm : (x y : ℕ) → sum x y ≡ sum y x
unfolding sum
sum_comm x y = xor_comm (element x) (element y)

pub sum_assoc : (x y z : ℕ) → sum (sum x y) z ≡ sum x (sum y z)
unfolding sum
sum_assoc x y z =
    ap (λ (u : ℕ). bit_xor u (element z)) (mod-eq_of_lt (sum_lt x y)) ∙ xor_assoc (element x) (element y) (element z)
    ∙ ap (bit_xor (element x)) (sym (mod-eq_of_lt (sum_lt y z)))

pub sum_self : (x : ℕ) → sum x x ≡ 0
unfolding sum
sum_self x = xor_self (element x)

pub sum_0 : (x : ℕ) → sum x 0 ≡ element x
unfolding sum
sum_0 x = xor_zero_r (element x)
