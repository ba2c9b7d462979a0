-- `bch::register::Register::put` meets its contract: what is written so far, then the top of what is left of the register.
-- Assumes nothing.
use mathlib.Core.Path.{◌≡◌, sym, ◌∙◌}
use mathlib.Core.List.{List, ◌++◌, append-nil, append_assoc}
use Prim.Native.Nat.{ℕ, suc, ◌+◌, ◌-◌, ◌*◌, ◌/◌, ◌%◌, ◌^◌, ◌≤◌, ◌<◌}
use native.Mathlib.Omega.{arith}
use native.Mathlib.Numerals.{add-one}
use lib.ListN.{length, set, take, length-set}
use lib.Seq.{take_all, take-suc-set}
use Rattle.bch.specs.Registers.{contents, tops}
use Rattle.bch.proofs.register.Register.put.Goals as goal

-- a turn: t is the top digit of x, and y has the digits below it
turn : (out : List ℕ) (n i x t y : ℕ) → i < n → i < length out → t ≡ x / 2 ^ 191 → y ≡ x * 2 % 2 ^ 192
    → take (i + 1) (set out i (t % 2)) ++ tops (n - (i + 1)) y ≡ take i out ++ tops (n - i) x
unfolding tops
turn out n i x t y h l et ey =
    let s : n - i ≡ suc (n - (i + 1)) = omega arith in
    rw (s, et, ey, add-one, take-suc-set out i (x / 2 ^ 191 % 2) l, append_assoc)

done : (out : List ℕ) (n i x : ℕ) → length out ≤ i → n ≤ i → out ≡ take i out ++ tops (n - i) x
unfolding tops
done out n i x l h =
    let s : n - i ≡ 0 = omega arith in
    rw (s, take_all i out l) (sym (append-nil out))

pub loop-i-preserved : goal.loop-i-preserved
loop-i-preserved c =
    let l = c.loop-i in
    let e = turn l.out (length c.args.out.now) l.i (contents l.rest) _ _ (omega arith) (omega arith) c.top.ensures.0 c.up-rest.ensures in
    (simp length-set l.invariant.0, e ∙ l.invariant.1)

pub returns : goal.returns
returns c =
    let l = c.loop-i in
    done l.out _ l.i (contents l.rest) (omega arith) (omega arith) ∙ l.invariant.1
