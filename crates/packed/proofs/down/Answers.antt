-- `packed::down` meets its contract: machine word after machine word, each put together from the one read last and the next.
-- Assumes nothing.
use mathlib.Core.Path.{◌≡◌, ap, ◌∙◌}
use mathlib.Core.List.{◌∷◌}
use Prim.Native.Nat.{ℕ, suc, ◌+◌, ◌-◌, ◌/◌, ◌%◌}
use native.Mathlib.Omega.{arith}
use lib.ListN.{get_or}
use Rattle.packed.proofs.Windows.{across_of}
use Rattle.packed.proofs.Stores.{stored_more, stored_all}
use Rattle.packed.proofs.Downs.{down_of, length_down, down_none, down_begun, down_at}
use Rattle.packed.proofs.down.Goals as goal

pub returns-then-k-gt511 : goal.returns-then-k-gt511
returns-then-k-gt511 c = let a = c.args in down_none a.words.now a.k c.if-k-gt511.true

pub loop-w-init : goal.loop-w-init
loop-w-init c =
    let a = c.args in
    let ws = a.words.now in
    let none : 0 ≡ a.k / 64 - a.k / 64 = omega arith in
    (ap (λ (j : ℕ). get_or (0 ∷ ws) j 0) none, down_begun ws a.k (omega arith))

pub loop-w-preserved : goal.loop-w-preserved
loop-w-preserved c =
    let l = c.loop-w in
    let a = c.args in
    let ws = a.words.now in
    let w = l.w in
    let j = w - a.k / 64 in
    let next : suc j ≡ w + 1 - a.k / 64 = omega arith in
    let read = c.below.ensures ∙ ap (λ (h : ℕ). across_of h (get_or ws j 0) (64 - a.k % 64)) l.invariant.0 in
    let here = down_at ws a.k w c.below.result (omega arith) (omega arith) read in
    (ap (λ (n : ℕ). get_or (0 ∷ ws) n 0) next, stored_more (down_of ws a.k) l.out w _ (omega arith) here l.invariant.1)

pub returns : goal.returns
returns c =
    let l = c.loop-w in
    let a = c.args in
    let ws = a.words.now in
    stored_all (down_of ws a.k) l.out l.w (length_down ws a.k) (omega arith) l.invariant.1
