-- The bits that points are read as by a table that is lent: part by part, how many, and what they are by ours.
-- Assumes nothing.
use mathlib.Core.Path.{◌≡◌, refl, sym, ap, ap₂, ◌∙◌}
use mathlib.Core.Bool.{cond}
use mathlib.Core.List.{List, [], ◌∷◌, ◌++◌, append-nil, append_assoc, zip_with}
use Prim.Native.Nat.{ℕ, suc, ◌+◌, ◌<◌}
use native.Mathlib.Omega.{arith}
use lib.IntN.{ℤ}
use lib.ListN.{length, get_or, take, length-append}
use lib.Seq.{take-suc, length-take-le}
use Rattle.bits.specs.Words.{digits}
use Rattle.bits.proofs.Digits.{length_digits}
use Rattle.points.specs.declared.Point.{Point}
use Rattle.points.specs.declared.Point.TheVariants.{Nothing}
use Rattle.points.specs.Constellations.{level_i, level_q}
use Rattle.points.specs.Lent.{read_in, our_quadrants}
use Rattle.symbols.specs.Grids.{points_from}
use Rattle.symbols.specs.Schemes.{sum_of, point_label, labelled, stray_in}
use Rattle.symbols.specs.ByScheme.{readable, read_by, symbol_read, read_by_in, symbol_read_in}
use Rattle.symbols.proofs.ReadBits as own

pub read_append : (quadrants a b : List ℕ) (p q : List Point) → length p ≡ length a
    → read_by_in quadrants (a ++ b) (p ++ q) ≡ read_by_in quadrants a p ++ read_by_in quadrants b q
unfolding read_by_in
read_append quadrants [] b [] q e = refl
read_append quadrants [] b (x ∷ p) q e = absurd (omega arith)
read_append quadrants (n ∷ a) b [] q e = absurd (omega arith)
read_append quadrants (n ∷ a) b (x ∷ p) q e = rw (read_append quadrants a b p q (omega arith), append_assoc)

-- one entry and one point more
pub read_snoc : (quadrants scheme : List ℕ) (ps : List Point) (s : ℕ) → s < length scheme → s < length ps
    → let n = get_or scheme s 0 in
    let p = get_or ps s Nothing in
    read_by_in quadrants (take (suc s) scheme) (take (suc s) ps)
    ≡ read_by_in quadrants (take s scheme) (take s ps) ++ digits n (read_in quadrants n (level_i p) (level_q p))
unfolding read_by_in
read_snoc quadrants scheme ps s h k =
    let long : length (take s ps) ≡ length (take s scheme) = length-take-le s ps (omega arith) ∙ sym (length-take-le s scheme (omega arith)) in
    let one = read_append quadrants (take s scheme) (get_or scheme s 0 ∷ []) (take s ps) (get_or ps s Nothing ∷ []) long in
    rw (take-suc scheme s 0 h, take-suc ps s Nothing k) (one ∙ ap (λ (bs : List ℕ). read_by_in quadrants (take s scheme) (take s ps) ++ bs) (append-nil _))

pub length_read : (quadrants ns : List ℕ) (ps : List Point) → length ps ≡ length ns → length (read_by_in quadrants ns ps) ≡ sum_of ns
unfolding read_by_in sum_of
length_read quadrants [] ps e = refl
length_read quadrants (n ∷ ns) [] e = absurd (omega arith)
length_read quadrants (n ∷ ns) (p ∷ ps) e =
    length-append (digits n (read_in quadrants n (level_i p) (level_q p))) (read_by_in quadrants ns ps)
    ∙ ap₂ ◌+◌ (length_digits n _) (length_read quadrants ns ps (omega arith))

-- ---- by ours

ours_read : (ns : List ℕ) (ps : List Point) → read_by_in our_quadrants ns ps ≡ read_by ns ps
unfolding read_by_in read_by
ours_read [] ps = refl
ours_read (n ∷ ns) [] = refl
ours_read (n ∷ ns) (p ∷ ps) = ap (λ (bs : List ℕ). digits n (read_in our_quadrants n (level_i p) (level_q p)) ++ bs) (ours_read ns ps)

pub read_ours : (quadrants : List ℕ) → quadrants ≡ our_quadrants → (ns : List ℕ) (ps : List Point) → read_by_in quadrants ns ps ≡ read_by ns ps
read_ours quadrants ours ns ps = ap (λ (table : List ℕ). read_by_in table ns ps) ours ∙ ours_read ns ps

pub symbol_ours : (quadrants : List ℕ) → quadrants ≡ our_quadrants → (scheme : List ℕ) (is qs : List ℤ)
    → symbol_read_in quadrants scheme is qs ≡ symbol_read scheme is qs
symbol_ours quadrants ours scheme is qs =
    ap (λ (bs : List ℕ). cond (readable 1 scheme is qs) bs []) (read_ours quadrants ours scheme (points_from is qs 1 210))

pub read_labelled : (quadrants : List ℕ) → quadrants ≡ our_quadrants → (ns : List ℕ) (ps : List Point)
    → stray_in ns ps ≡ length (zip_with point_label ns ps) → read_by_in quadrants ns ps ≡ labelled ns ps
read_labelled quadrants ours ns ps e = read_ours quadrants ours ns ps ∙ own.read_labelled ns ps e
