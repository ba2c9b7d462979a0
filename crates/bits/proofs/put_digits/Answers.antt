-- `bits::put_digits` meets its contract: before what is written stand the digits of what is left of x.
-- Assumes nothing.
use mathlib.Core.Path.{◌≡◌, ap, ◌∙◌}
use mathlib.Core.List.{List, ◌∷◌, ◌++◌, append-nil, append_assoc}
use Prim.Native.Nat.{ℕ, suc, ◌-◌, ◌/◌, ◌%◌, ◌<◌}
use native.Mathlib.Omega.{arith}
use lib.ListN.{length, set, drop}
use lib.Seq.{drop-length, drop-cons, drop-set-lt, get_or-set_same, lt-length-set}
use Rattle.bits.specs.Words.{digits}
use Rattle.bits.proofs.Digits.{digits_last}
use Rattle.bits.proofs.put_digits.Goals as goal

drop-set : (out : List ℕ) (j v : ℕ) → j < length out → drop j (set out j v) ≡ v ∷ drop (suc j) out
drop-set out j v h =
    rw (drop-cons (set out j v) j 0 (lt-length-set out j v h), get_or-set_same out j v 0 h, drop-set-lt (suc j) out j v (omega arith))

-- a turn: the lowest digit of x stands at j
turn : (out : List ℕ) (j x : ℕ) → j < length out → digits j (x / 2) ++ drop j (set out j (x % 2)) ≡ digits (suc j) x ++ drop (suc j) out
turn out j x h = rw (drop-set out j (x % 2) h, digits_last j x, append_assoc)

pub loop-i-init : goal.loop-i-init
loop-i-init c =
    let out = c.args.out.now in
    rw (drop-length out) (append-nil (digits (length out) c.args.x))

pub loop-i-preserved : goal.loop-i-preserved
loop-i-preserved c =
    let l = c.loop-i in
    let s : suc (l.i - 1) ≡ l.i = omega arith in
    turn l.out (l.i - 1) l.rest (omega arith) ∙ ap (λ (n : ℕ). digits n l.rest ++ drop n l.out) s ∙ l.invariant

pub returns : goal.returns
unfolding digits
returns c =
    let l = c.loop-i in
    let e : l.i ≡ 0 = omega arith in
    rw e at l.invariant
