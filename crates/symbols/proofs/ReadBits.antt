-- The bits that points are read as by our table: part by part, how many, and that they are those of the labels, where no point is stray.
-- Assumes nothing.
use mathlib.Core.Path.{◌≡◌, refl, sym, ap, ap₂, ◌∙◌}
use mathlib.Core.Bool.{Bool, true, false, cond}
use mathlib.Core.List.{List, [], ◌∷◌, ◌++◌, append-nil, append_assoc, zip_with}
use Prim.Native.Nat.{ℕ, suc, ◌+◌, ◌<◌}
use native.Mathlib.Omega.{arith}
use lib.ListN.{length, get_or, take, length-append}
use lib.Seq.{take-suc, length-take-le}
use Rattle.ground.specs.First.{first_in}
use Rattle.bits.specs.Words.{digits}
use Rattle.bits.proofs.Digits.{length_digits}
use Rattle.points.specs.declared.Point.{Point}
use Rattle.points.specs.declared.Point.TheVariants.{Nothing}
use Rattle.points.specs.Constellations.{label_number, is_stray, level_i, level_q}
use Rattle.points.specs.Lent.{read_in, our_quadrants}
use Rattle.points.proofs.Legal.{read_label}
use Rattle.symbols.specs.Schemes.{sum_of, point_label, labelled, stray_in}
use Rattle.symbols.specs.ByScheme.{read_by}

pub read_append : (a b : List ℕ) (p q : List Point) → length p ≡ length a
    → read_by (a ++ b) (p ++ q) ≡ read_by a p ++ read_by b q
unfolding read_by
read_append [] b [] q e = refl
read_append [] b (x ∷ p) q e = absurd (omega arith)
read_append (n ∷ a) b [] q e = absurd (omega arith)
read_append (n ∷ a) b (x ∷ p) q e = rw (read_append a b p q (omega arith), append_assoc)

-- one entry and one point more
pub read_snoc : (scheme : List ℕ) (ps : List Point) (s : ℕ) → s < length scheme → s < length ps
    → let n = get_or scheme s 0 in
    let p = get_or ps s Nothing in
    read_by (take (suc s) scheme) (take (suc s) ps)
    ≡ read_by (take s scheme) (take s ps) ++ digits n (read_in our_quadrants n (level_i p) (level_q p))
unfolding read_by
read_snoc scheme ps s h k =
    let long : length (take s ps) ≡ length (take s scheme) = length-take-le s ps (omega arith) ∙ sym (length-take-le s scheme (omega arith)) in
    let one = read_append (take s scheme) (get_or scheme s 0 ∷ []) (take s ps) (get_or ps s Nothing ∷ []) long in
    rw (take-suc scheme s 0 h, take-suc ps s Nothing k) (one ∙ ap (λ (bs : List ℕ). read_by (take s scheme) (take s ps) ++ bs) (append-nil _))

pub length_read : (ns : List ℕ) (ps : List Point) → length ps ≡ length ns → length (read_by ns ps) ≡ sum_of ns
unfolding read_by sum_of
length_read [] ps e = refl
length_read (n ∷ ns) [] e = absurd (omega arith)
length_read (n ∷ ns) (p ∷ ps) e =
    length-append (digits n (read_in our_quadrants n (level_i p) (level_q p))) (read_by ns ps)
    ∙ ap₂ ◌+◌ (length_digits n _) (length_read ns ps (omega arith))

-- ---- where no point is stray

-- the first is not stray, nor are the others
none_stray : (stray : Bool) (k m : ℕ) → cond stray 0 (suc k) ≡ suc m → (stray ≡ false) × (k ≡ m)
none_stray true k m e = absurd (omega arith)
none_stray false k m e = (refl, omega arith)

pub read_labelled : (ns : List ℕ) (ps : List Point) → stray_in ns ps ≡ length (zip_with point_label ns ps) → read_by ns ps ≡ labelled ns ps
unfolding read_by labelled first_in zip_with
read_labelled [] ps e = refl
read_labelled (n ∷ ns) [] e = refl
read_labelled (n ∷ ns) (p ∷ ps) e =
    let none = none_stray (is_stray (point_label n p)) _ _ e in
    ap₂ ◌++◌ (ap (digits n) (sym (ap label_number (read_label n (level_i p) (level_q p) none.0)))) (read_labelled ns ps none.1)
