-- Horner's rule in x^3: the sums hold the locator's value at each element, and its zeros are told.
-- Assumes nothing.
use mathlib.Core.Path.{◌≡◌, sym, ap, ap₂, ◌∙◌, fun_ext}
use mathlib.Core.List.{List}
use Prim.Native.Nat.{ℕ, zero, suc, ◌+◌, ◌-◌, ◌*◌, ◌/◌, ◌≤◌, ◌<◌, min}
use native.Mathlib.Nat.{sub-zero}
use native.Mathlib.Omega.{arith}
use Rattle.algebra.proofs.Fields.{ring}
use Rattle.algebra.proofs.Polynomials.{ev, ev_zero, ev-suc, ev_trim}
use Rattle.field.proofs.Elements.{gf512, element_of}
use Rattle.field.proofs.Values.{series}
use Rattle.planes.specs.Lanes.{lane_of, value_of}
use Rattle.roots.specs.Searches.{planes_at, cube, Filled, Advanced, RowsTold, Searched, Triple, triples, Reached}
use Rattle.planes.specs.declared.Affine.{Affine}
open gf512 use {Element, zero as 𝟘, add as ◌⊕◌, mul as ◌⊗◌}

infixl 60 ◌⊕◌
infixl 70 ◌⊗◌
-- one step of Horner's rule in x^3 is three of them in x
cube_step : (c d e x u : Element) → u ⊗ cube x ⊕ value_of c d e x ≡ c ⊕ x ⊗ (d ⊕ x ⊗ (e ⊕ x ⊗ u))
unfolding cube value_of
cube_step c d e x u = expanded
  where
    expanded : u ⊗ (x ⊗ (x ⊗ x)) ⊕ (c ⊕ (d ⊗ x ⊕ e ⊗ (x ⊗ x))) ≡ c ⊕ x ⊗ (d ⊕ x ⊗ (e ⊕ x ⊗ u))
    expanded = simp ring

-- the terms from the place 3 i on
abbrev from : List ℕ → ℕ → ℕ → Element
from loc i j = series loc (3 * i + j)

from_next : (loc : List ℕ) (i j : ℕ) → from loc (suc i) j ≡ from loc i (suc (suc (suc j)))
from_next loc i j = let e : 3 * suc i + j ≡ 3 * i + suc (suc (suc j)) = omega arith in ap (series loc) e

-- three terms and the rest
ev_three : (n : ℕ) (p : ℕ → Element) (x : Element)
    → ev gf512 (suc (suc (suc n))) p x ≡ p 0 ⊕ x ⊗ (p 1 ⊕ x ⊗ (p 2 ⊕ x ⊗ ev gf512 n (λ j. p (suc (suc (suc j)))) x))
ev_three n p x = rw (ev-suc gf512 (suc (suc n)) p x, ev-suc gf512 (suc n) (λ j. p (suc j)) x, ev-suc gf512 n (λ j. p (suc (suc j))) x)

-- so many times three terms are a polynomial's value
triples-ev : (loc : List ℕ) (k i : ℕ) (x : Element) → triples loc k i x ≡ ev gf512 (3 * k) (from loc i) x
unfolding triples
triples-ev loc zero i x = sym (ev_zero gf512 (from loc i) x)
triples-ev loc (suc k) i x =
    let n : 3 * suc k ≡ suc (suc (suc (3 * k))) = omega arith in
    let z : 3 * i + 0 ≡ 3 * i = omega arith in
    let rest = triples-ev loc k (suc i) x ∙ ap (λ p. ev gf512 (3 * k) p x) (fun_ext (from_next loc i)) in
    rw n (cube_step _ _ _ x (triples loc k (suc i) x)
    ∙ ap (λ u. series loc (3 * i) ⊕ x ⊗ (series loc (3 * i + 1) ⊕ x ⊗ (series loc (3 * i + 2) ⊕ x ⊗ u))) rest
    ∙ ap (λ m. series loc m ⊕ x ⊗ (from loc i 1 ⊕ x ⊗ (from loc i 2 ⊕ x ⊗ ev gf512 (3 * k) (λ j. from loc i (suc (suc (suc j)))) x))) (sym z)
    ∙ sym (ev_three (3 * k) (from loc i) x))

-- from place 0 on they are the locator's
triples_all : (loc : List ℕ) (k : ℕ) (x : Element) → triples loc k 0 x ≡ ev gf512 (3 * k) (series loc) x
triples_all loc k x = triples-ev loc k 0 x ∙ ap (λ p. ev gf512 (3 * k) p x) (fun_ext (λ j. ap (series loc) (same j)))
  where
    same : (j : ℕ) → 3 * 0 + j ≡ j
    same j = omega arith

-- ---- the sums

zero_times_plus : (c x : Element) → c ≡ 𝟘 ⊗ x ⊕ c
zero_times_plus c x = simp ring

-- the highest three terms
pub reached_first : (loc : List ℕ) (m : ℕ) (s : List ℕ) (t : Affine) → Triple loc m t → Filled t s → Reached loc m s m
unfolding Reached Triple triples
reached_first loc m s t h f w l hw hl =
    let one : suc m - m ≡ 1 = omega arith in
    rw one (f.each w l hw hl ∙ h w l hw hl ∙ zero_times_plus _ _)

-- one step down
pub reached_next : (loc : List ℕ) (m : ℕ) (s s' : List ℕ) (i j : ℕ) (t : Affine) → Reached loc m s j → j ≡ suc i → j ≤ m → Triple loc i t
    → Advanced t s s' → Reached loc m s' i
unfolding Reached Triple triples
reached_next loc m s s' i j t r e b h f w l hw hl =
    let more : suc m - i ≡ suc (suc m - suc i) = omega arith in
    let old : lane_of (planes_at s w) l ≡ triples loc (suc m - suc i) (suc i) (element_of (64 * w + l)) = rw e at (r w l hw hl) in
    rw more (f.each w l hw hl ∙ ap₂ gf512.add (ap (λ u. u ⊗ cube (element_of (64 * w + l))) old) (h w l hw hl))

-- at place 0 the lanes that are 0 are the locator's zeros
pub reached_all : (loc : List ℕ) (m : ℕ) (s z : List ℕ) → Reached loc m s 0 → RowsTold s z → Searched loc (3 * suc m) z
unfolding Reached RowsTold
reached_all loc m s z r t = record {
  zero = λ w l hw hl e. (t w l hw hl).0 (is w l hw hl ∙ e);
  other = λ w l hw hl n. (t w l hw hl).1 (λ e. n (sym (is w l hw hl) ∙ e));
}
  where
    is : (w l : ℕ) → w < 8 → l < 64 → lane_of (planes_at s w) l ≡ ev gf512 (3 * suc m) (series loc) (element_of (64 * w + l))
    is w l hw hl =
        let x = element_of (64 * w + l) in
        r w l hw hl ∙ ap (λ k. triples loc k 0 x) (sub-zero (suc m)) ∙ triples_all loc (suc m) x

-- coefficients above len that are zero may be left out
pub searched_trim : (loc : List ℕ) (len : ℕ) (z : List ℕ) → len ≤ 32 → ((i : ℕ) → len < i → series loc i ≡ 𝟘) → Searched loc (3 * suc (min len 32 / 3)) z
    → Searched loc (suc len) z
searched_trim loc len z b h s = record {
  zero = λ w l hw hl e. s.zero w l hw hl (trim (element_of (64 * w + l)) ∙ e);
  other = λ w l hw hl n. s.other w l hw hl (λ e. n (sym (trim (element_of (64 * w + l))) ∙ e));
}
  where
    trim : (x : Element) → ev gf512 (3 * suc (min len 32 / 3)) (series loc) x ≡ ev gf512 (suc len) (series loc) x
    trim x = ev_trim gf512 (suc len) (3 * suc (min len 32 / 3)) (series loc) x (omega arith) (λ i k. h i (omega arith))
