-- `remainders::behind` meets its contract: three times 64 digits, each across two machine words.
-- Assumes nothing.
use mathlib.Core.Path.{◌≡◌, sym, ap, ◌∙◌}
use mathlib.Core.List.{List}
use Prim.Native.Nat.{ℕ}
use native.Mathlib.Omega.{arith}
use lib.ListN.{get_or, take}
use lib.Seq.{take_all}
use Rattle.packed.proofs.Windows.{across_known}
use Rattle.remainders.proofs.Windows.{window, window_none}
use Rattle.remainders.proofs.behind.Goals as goal

pub returns-then-at-gt511 : goal.returns-then-at-gt511
returns-then-at-gt511 c = window_none c.args.words.now c.args.at (omega arith)

pub returns : goal.returns
returns c =
    let ws : List ℕ = c.args.words.now in
    let at = c.args.at in
    let all : take 8 ws ≡ ws = take_all 8 ws (omega (arith, c.told-words)) in
    let read : (i : ℕ) → get_or ws i 0 ≡ get_or (take 8 ws) i 0 = λ i. ap (λ (v : List ℕ). get_or v i 0) (sym all) in
    let at1 = c.word_at-a.ensures ∙ read _ in
    let at2 = c.word_at-b.ensures ∙ read _ in
    let at3 = c.word_at.ensures ∙ read _ in
    window ws at c.across.result c.across-2.result c.across-3.result (omega arith) (omega arith) (omega arith) (omega arith)
    (c.across.ensures ∙ across_known at (read _) at1) (c.across-2.ensures ∙ across_known at at1 at2)
    (c.across-3.ensures ∙ across_known at at2 at3)
