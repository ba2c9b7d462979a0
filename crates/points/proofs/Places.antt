-- Laws of any list of points: the label of a point is a place at which it stands, and the only one where a guess tells the places apart.
-- Assumes nothing.
use mathlib.Core.Path.{◌≡◌, refl, sym, ap, subst, ◌∙◌}
use mathlib.Core.Bool.{Bool, true, false, cond}
use mathlib.Core.List.{List, [], ◌∷◌}
use Prim.Native.Nat.{ℕ, zero, suc, ◌<◌, ◌≤◌}
use native.Mathlib.Decide.{dec_le}
use native.Mathlib.Nat.{le_of_suc-le-suc, not-suc-le-zero}
use native.Mathlib.Omega.{arith}
use lib.Dec.{T, eqb, eqb→eq}
use lib.IntN.{ℤ, pos, negsuc}
use lib.ListN.{length, get_or, get_or-eq_default}
use borrow.Author.Tests.{eq-eqb}
use Rattle.std.specs.Prelude.{Option, Some, None}
use Rattle.points.specs.declared.Point.{Point}
use Rattle.points.specs.declared.Point.TheVariants.{At, Nothing}
use Rattle.points.specs.Constellations.{same, is_at, next, label_at, level_i, level_q}
use Rattle.points.specs.Lent.{confirmed}
use Rattle.ground.proofs.Tests.{both, every, every_at}

-- ---- what the tests of levels and points say

same-eq : (x y : ℤ) → T (same x y) → x ≡ y
same-eq (pos a) (pos b) t = ap pos (eqb→eq a b t)
same-eq (pos a) (negsuc b) t = absurd t
same-eq (negsuc a) (pos b) t = absurd t
same-eq (negsuc a) (negsuc b) t = ap negsuc (eqb→eq a b t)

same_refl : (x : ℤ) → same x x ≡ true
same_refl (pos a) = eq-eqb a a refl
same_refl (negsuc a) = eq-eqb a a refl

at_itself : (i q : ℤ) → is_at (At i q) i q ≡ true
at_itself i q = rw (same_refl i, same_refl q)

pub is_at_lem : (p : Point) (i q : ℤ) → is_at p i q ≡ true → p ≡ At i q
is_at_lem (At x y) i q e =
    let t = both (same x i) (same y q) (subst T (sym e) tt) in
    cc (same-eq x i t.0, same-eq y q t.1)
is_at_lem Nothing i q e = let z : ◌≡◌ {A = Bool} false true = e in absurd (subst T (sym z) tt)

-- ---- the label of a point is a place at which it stands

pub none_there : {A : Type 0} {l : ℕ} → None ≡ Some l → A
none_there e = let z : ◌≡◌ {A = ℕ} 0 1 = cc in absurd (omega arith)

pub no_point : {A : Type 0} {i q : ℤ} → Nothing ≡ At i q → A
no_point e = let z : ◌≡◌ {A = ℕ} 0 1 = cc in absurd (omega arith)

stands : (p : Point) (ps : List Point) (i q : ℤ) (l : ℕ) →
    ((m : ℕ) → label_at ps i q ≡ Some m → get_or ps m Nothing ≡ At i q) →
    (here : Bool) → is_at p i q ≡ here → (rest : Option ℕ) → label_at ps i q ≡ rest →
    cond here (Some 0) (next rest) ≡ Some l → get_or (p ∷ ps) l Nothing ≡ At i q
unfolding next
stands p ps i q l later true h rest r e =
    let z : l ≡ 0 = cc in
    ap (λ (m : ℕ). get_or (p ∷ ps) m Nothing) z ∙ is_at_lem p i q h
stands p ps i q l later false h (Some m) r e =
    let z : l ≡ suc m = cc in
    ap (λ (m : ℕ). get_or (p ∷ ps) m Nothing) z ∙ later m r
stands p ps i q l later false h None r e = none_there e

pub point_of_label : (ps : List Point) (i q : ℤ) (l : ℕ) → label_at ps i q ≡ Some l → get_or ps l Nothing ≡ At i q
unfolding label_at
point_of_label [] i q l e = none_there e
point_of_label (p ∷ ps) i q l e =
    stands p ps i q l (point_of_label ps i q) (is_at p i q) refl (label_at ps i q) refl e

pub in_list : (ps : List Point) (i q : ℤ) (l : ℕ) → get_or ps l Nothing ≡ At i q → l < length ps
in_list ps i q l e = by (dec_le (length ps) l)
  where
    by : Dec (length ps ≤ l) → l < length ps
    by (yes h) = no_point (sym (get_or-eq_default ps Nothing h) ∙ e)
    by (no h) = omega arith

-- a point that stands somewhere has a label
found : (p : Point) (i q : ℤ) (here : Bool) → is_at p i q ≡ here → (rest : Option ℕ) →
    (m : ℕ) × (rest ≡ Some m) → (m : ℕ) × (cond here (Some 0) (next rest) ≡ Some m)
unfolding next
found p i q true h rest r = (0, refl)
found p i q false h rest r = (suc r.0, ap next r.1)

has_label : (ps : List Point) (i q : ℤ) (l : ℕ) → get_or ps l Nothing ≡ At i q → (m : ℕ) × (label_at ps i q ≡ Some m)
unfolding label_at
has_label [] i q l e = no_point e
has_label (p ∷ ps) i q zero e = (0, rw (ap (λ (x : Point). is_at x i q) e ∙ at_itself i q))
has_label (p ∷ ps) i q (suc l) e = found p i q (is_at p i q) refl (label_at ps i q) (has_label ps i q l e)

-- what is read in a list does not depend on what would be read beyond it
pub read_in : {A : Type 0} (xs : List A) (n : ℕ) (d e : A) → n < length xs → get_or xs n d ≡ get_or xs n e
read_in [] n d e h = absurd (not-suc-le-zero h)
read_in (x ∷ xs) zero d e h = refl
read_in (x ∷ xs) (suc n) d e h = read_in xs n d e (le_of_suc-le-suc h)

-- ---- a guess that is right at each point of a list

-- g tells the place of each point of the list
unfoldable pub Tells : (ℤ → ℤ → ℕ) → List Point → Type 0
Tells g ps = (l : ℕ) (i q : ℤ) → get_or ps l Nothing ≡ At i q → g i q ≡ l

abbrev pub tells : (ℤ → ℤ → ℕ) → List Point → Bool
tells g ps = every (λ l p. eqb (g (level_i p) (level_q p)) l) 0 ps

pub tells_is : (g : ℤ → ℤ → ℕ) (ps : List Point) → T (tells g ps) → Tells g ps
unfolding Tells
tells_is g ps t l i q e =
    let found = every_at (λ l p. eqb (g (level_i p) (level_q p)) l) Nothing ps t l (in_list ps i q l e) in
    eqb→eq (g i q) l (subst (λ (p : Point). T (eqb (g (level_i p) (level_q p)) l)) e found)

module _ (g : ℤ → ℤ → ℕ) (ps : List Point) (right : Tells g ps) where
  pub differ : (l m : ℕ) (i q : ℤ) → get_or ps l Nothing ≡ At i q → get_or ps m Nothing ≡ At i q → l ≡ m
  unfolding Tells
  differ l m i q a b = sym (right l i q a) ∙ right m i q b

  pub label_of_point : (l : ℕ) (i q : ℤ) → get_or ps l Nothing ≡ At i q → label_at ps i q ≡ Some l
  label_of_point l i q e =
      let m = has_label ps i q l e in
      m.1 ∙ ap Some (differ m.0 l i q (point_of_label ps i q m.0 m.1) e)

  pub look_again : (i q : ℤ) → confirmed (get_or ps (g i q) Nothing) (g i q) i q ≡ label_at ps i q
  unfolding Tells
  look_again i q = by (is_at (get_or ps (g i q) Nothing) i q) refl (label_at ps i q) refl
    where
      by : (here : Bool) → is_at (get_or ps (g i q) Nothing) i q ≡ here →
          (l : Option ℕ) → label_at ps i q ≡ l → cond here (Some (g i q)) None ≡ l
      by true h l e = sym (label_of_point (g i q) i q (is_at_lem (get_or ps (g i q) Nothing) i q h)) ∙ e
      by false h None e = refl
      by false h (Some l) e =
          let p = point_of_label ps i q l e in
          let moved = ap (λ (m : ℕ). is_at (get_or ps m Nothing) i q) (right l i q p) in
          let z : ◌≡◌ {A = Bool} false true = sym h ∙ moved ∙ ap (λ (x : Point). is_at x i q) p ∙ at_itself i q in
          absurd (subst T (sym z) tt)
