-- `receiver_a::rows::places_apart` meets its contract: the pairs of elements that differ are counted.
-- Assumes nothing.
use mathlib.Core.Path.{◌≡◌, refl, ◌∙◌}
use mathlib.Core.Bool.{Bool, true, false, cond, not}
use mathlib.Core.List.{List, [], ◌∷◌}
use Prim.Native.Nat.{ℕ, ◌+◌}
use native.Mathlib.Omega.{arith}
use borrow.Author.Rules.{rules}
use borrow.Author.Tests.{tests}
use lib.Dec.{eqb}
use lib.ListN.{length}
use Rattle.std.specs.List.{zip, filter}
use Rattle.std.proofs.lemmas.Iterator.{YieldsList-from_slice, YieldsList-from_zip}
use Rattle.std.proofs.lemmas.Iterator.Consumers.{YieldsList-at, YieldsList-from_filter, count_from_yields_List}
use Rattle.bits.specs.Words.{differ}
use Rattle.bits.proofs.Distances.{differ-le}
use Rattle.receiver_a.proofs.rows.places_apart.Goals as goal

-- where a list of pairs differs
abbrev differs : ℕ × ℕ → Bool
differs p = not (eqb p.0 p.1)

one_more : (b : Bool) (p : ℕ × ℕ) (ps : List (ℕ × ℕ)) (n : ℕ) → length ps ≡ n → length (cond (not b) (p ∷ ps) ps) ≡ cond b 0 1 + n
one_more true p ps n e = omega (arith, e)
one_more false p ps n e = omega (arith, e)

pairs_apart : (v w : List ℕ) → length v ≡ length w → length (filter differs (zip v w)) ≡ differ v w
unfolding differ
pairs_apart [] [] e = refl
pairs_apart [] (y ∷ w) e = absurd (omega arith)
pairs_apart (x ∷ v) [] e = absurd (omega arith)
pairs_apart (x ∷ v) (y ∷ w) e = one_more (eqb x y) (x, y) (filter differs (zip v w)) (differ v w) (pairs_apart v w (omega arith))

pub returns : goal.returns
returns c =
    let field = c.args.field.now in
    let received = c.args.received.now in
    let counted : c.count.result ≡ length (filter differs (zip field received)) =
    count_from_yields_List c.filter.result _ c.count.ensures.ran
    (YieldsList-from_filter _ differs (YieldsList-at c.filter.ensures.source (YieldsList-from_zip (YieldsList-at c.zip.ensures.first (YieldsList-from_slice field cc))
    (YieldsList-from_slice received c.zip.ensures.second.0))) c.filter.ensures.closure (λ x r q k. search (rules, tests))) in
    let e = counted ∙ pairs_apart field received c.requires in
    (e, rw e (differ-le field received (length field) (omega arith) (omega arith)))
