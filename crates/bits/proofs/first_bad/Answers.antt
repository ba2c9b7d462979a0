-- `bits::first_bad` meets its contract: where any is below 2 no element is bad; else the first above 1 is found.
-- Assumes nothing.
use Rattle.std.proofs.Common.{rules, ◌≡◌, refl, ap, ◌∙◌, ℕ, suc, ◌+◌, ◌≤◌, Bool, true, false, List, [], ◌∷◌, length, Option, Some, None}
use mathlib.Core.Bool.{cond, not}
use native.Mathlib.Omega.{arith}
use borrow.Author.Tests.{tests, ltb-false}
use lib.Dec.{ltb}
use Rattle.std.specs.List.{position_or_len}
use Rattle.std.specs.Option.{unwrap_or}
use Rattle.std.proofs.lemmas.Iterator.{YieldsList-from_slice}
use Rattle.std.proofs.lemmas.Iterator.Search.{position_from_yields_List}
use Rattle.ground.specs.First.{first_in}
use Rattle.ground.proofs.Firsts.{first, first_end}
use Rattle.bits.proofs.Digits.{none_bad}
use Rattle.bits.proofs.first_bad.Goals as goal

-- the place that std's word has, and ours
same_place : (test : ℕ → Bool) (w : List ℕ) → position_or_len test w ≡ first_in test w
unfolding first_in
same_place test [] = refl
same_place test (x ∷ w) = by (test x) _ _ (same_place test w)
  where
    by : (found : Bool) (k m : ℕ) → k ≡ m → cond (not found) (1 + k) 0 ≡ cond found 0 (suc m)
    by true k m e = refl
    by false k m e = omega arith

-- a place, or none and then the length
or_length : (k n : ℕ) → k ≤ n → unwrap_or (cond (ltb k n) (Some k) None) n ≡ k
or_length k n h = by (ltb k n) refl
  where
    by : (below : Bool) → ltb k n ≡ below → unwrap_or (cond below (Some k) None) n ≡ k
    by true e = refl
    by false e = omega (arith, ltb-false k n e)

pub returns-then-any-lt2 : goal.returns-then-any-lt2
returns-then-any-lt2 c =
    let w = c.args.word.now in
    first_end _ 0 w (length w) (none_bad w (c.any.ensures (omega arith))) (omega arith)

pub returns : goal.returns
returns c =
    let w = c.args.word.now in
    let found = position_from_yields_List (ltb 1) _ _ _ c.position.ensures.ran (YieldsList-from_slice w cc) (λ x b q k. search (rules, tests)) in
    let same = same_place (ltb 1) w in
    c.unwrap_or.ensures ∙ ap (λ (o : Option ℕ). unwrap_or o (length w)) found
    ∙ or_length (position_or_len (ltb 1) w) (length w) (omega (arith, same, (first (ltb 1) 0 w).most)) ∙ same
