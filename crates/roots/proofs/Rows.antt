-- Planes in a list of 72 machine words: what is put at a row stands there, and the other rows are as they were.
-- Assumes nothing.
use mathlib.Core.Path.{◌≡◌, refl, ap, ap₂, ◌∙◌}
use mathlib.Core.Logic.{◌≢◌}
use mathlib.Core.List.{List, [], ◌∷◌}
use Prim.Native.Nat.{ℕ, zero, suc, ◌+◌, ◌*◌, ◌%◌, ◌^◌, ◌≤◌, ◌<◌}
use native.Mathlib.Nat.{zero-add, zero-div}
use native.Mathlib.Decide.{dec_lt}
use native.Mathlib.Omega.{arith}
use lib.Dec.{T, ltb, ltb→lt, lit<}
use lib.ListN.{length, get_or, set, replicate, length-set}
use lib.Seq.{get_or-set_same, get_or-set_other}
use Rattle.algebra.proofs.Fields.{ring}
use Rattle.field.proofs.Elements.{gf512, element_of, of_0, of_1}
use Rattle.planes.specs.Lanes.{bit_of, nine, number_at, lane_of, row_at, Summed, Multiplied, Vanishing}
use Rattle.roots.specs.Searches.{planes_at, row_put, Cubes, Grown, times_cube, plus_row, AddedAt, Filled, Advanced, RowsTold}
use Rattle.roots.specs.declared.tables.TheConstants.{CUBES}
use Rattle.roots.proofs.Cubing.{cubes_are}
use Rattle.planes.specs.declared.Affine.{Affine}
use Rattle.planes.specs.declared.Planes.{Planes}
open gf512 use {Element, add as ◌⊕◌, mul as ◌⊗◌}

infixl 60 ◌⊕◌
infixl 70 ◌⊗◌
-- planes that are equal one by one
planes_cong : {u v : Planes} → u.p0 ≡ v.p0 → u.p1 ≡ v.p1 → u.p2 ≡ v.p2 → u.p3 ≡ v.p3 → u.p4 ≡ v.p4 → u.p5 ≡ v.p5 → u.p6 ≡ v.p6 → u.p7 ≡ v.p7
    → u.p8 ≡ v.p8 → u ≡ v
planes_cong h0 h1 h2 h3 h4 h5 h6 h7 h8 = λ i. record { p0 = h0 i; p1 = h1 i; p2 = h2 i; p3 = h3 i; p4 = h4 i; p5 = h5 i; p6 = h6 i; p7 = h7 i; p8 = h8 i }

-- the digits xs are put at row w, the first of them at b + w
put_from : List ℕ → ℕ → ℕ → List ℕ → List ℕ
put_from s w b [] = s
put_from s w b (x ∷ xs) = put_from (set s (b + w) x) w (8 + b) xs

length_from : (s : List ℕ) (w b : ℕ) (xs : List ℕ) → length (put_from s w b xs) ≡ length s
unfolding put_from
length_from s w b [] = refl
length_from s w b (x ∷ xs) = length_from (set s (b + w) x) w (8 + b) xs ∙ length-set s (b + w) x

-- a place before all of them is as it was
from_before : (s : List ℕ) (w b : ℕ) (xs : List ℕ) (j : ℕ) → j < b + w → get_or (put_from s w b xs) j 0 ≡ get_or s j 0
unfolding put_from
from_before s w b [] j h = refl
from_before s w b (x ∷ xs) j h = from_before (set s (b + w) x) w (8 + b) xs j (omega arith) ∙ get_or-set_other s (b + w) j x 0 (omega arith)

-- so is a place of another row
from_other : (s : List ℕ) (w b : ℕ) (xs : List ℕ) (j : ℕ) → j % 8 ≢ (b + w) % 8 → get_or (put_from s w b xs) j 0 ≡ get_or s j 0
unfolding put_from
from_other s w b [] j n = refl
from_other s w b (x ∷ xs) j n =
    from_other (set s (b + w) x) w (8 + b) xs j (λ e. n (omega arith)) ∙ get_or-set_other s (b + w) j x 0 (λ e. n (ap (λ k. k % 8) e))

-- digit k stands at its place
from_at : (s : List ℕ) (w b : ℕ) (xs : List ℕ) (k : ℕ) → k < length xs → 8 * k + b + w < length s → get_or (put_from s w b xs) (8 * k + b + w) 0 ≡ get_or xs k 0
unfolding put_from
from_at s w b [] k h m = absurd (omega arith)
from_at s w b (x ∷ xs) zero h m =
    let place : 8 * 0 + b + w ≡ b + w = omega arith in
    rw place (from_before (set s (b + w) x) w (8 + b) xs (b + w) (omega arith) ∙ get_or-set_same s (b + w) x 0 (rw place at m))
from_at s w b (x ∷ xs) (suc k) h m =
    let place : 8 * suc k + b + w ≡ 8 * k + (8 + b) + w = omega arith in
    rw place (from_at (set s (b + w) x) w (8 + b) xs k (omega arith) (omega (arith, length-set s (b + w) x)))

module _ (s : List ℕ) (w : ℕ) (v : Planes) where
  abbrev digits : List ℕ
  digits = v.p0 ∷ v.p1 ∷ v.p2 ∷ v.p3 ∷ v.p4 ∷ v.p5 ∷ v.p6 ∷ v.p7 ∷ v.p8 ∷ []

  put_from_lem : row_put s w v ≡ put_from s w 0 digits
  unfolding row_put put_from
  put_from_lem = rw (zero-add w)

  pub length_put : length (row_put s w v) ≡ length s
  length_put = ap length put_from_lem ∙ length_from s w 0 digits

  pub put_same : w < 8 → length s ≡ 72 → planes_at (row_put s w v) w ≡ v
  unfolding planes_at
  put_same h long = rw put_from_lem (planes_cong (rw (zero-add w) at (at 0 tt)) (at 1 tt) (at 2 tt) (at 3 tt) (at 4 tt) (at 5 tt) (at 6 tt) (at 7 tt) (at 8 tt))
    where
      at : (k : ℕ) → T (ltb k 9) → get_or (put_from s w 0 digits) (8 * k + 0 + w) 0 ≡ get_or digits k 0
      at k t = let b = ltb→lt k 9 t in from_at s w 0 digits k b (omega (arith, long, b))

  pub put_other : (u : ℕ) → w < 8 → u < 8 → u ≢ w → planes_at (row_put s w v) u ≡ planes_at s u
  unfolding planes_at
  put_other u h m n = rw put_from_lem (planes_cong (rw (zero-add u) at (at 0)) (at 1) (at 2) (at 3) (at 4) (at 5) (at 6) (at 7) (at 8))
    where
      at : (k : ℕ) → get_or (put_from s w 0 digits) (8 * k + u) 0 ≡ get_or s (8 * k + u) 0
      at k = from_other s w 0 digits (8 * k + u) (λ e. n (omega arith))

-- ---- rows done one after the other

-- the first n rows hold f, the others are as they were
pub record Upto (f : ℕ → ℕ → gf512.Element) (old new : List ℕ) (n : ℕ) : Type 0 where
  pub most : n ≤ 8
  pub long : length new ≡ 72
  pub done : (w l : ℕ) → w < n → l < 64 → lane_of (planes_at new w) l ≡ f w l
  pub kept : (w : ℕ) → n ≤ w → w < 8 → planes_at new w ≡ planes_at old w

module _ (f : ℕ → ℕ → gf512.Element) (old : List ℕ) where
  pub upto_none : length old ≡ 72 → Upto f old old 0
  upto_none h = record { most = omega arith; long = h; done = λ w l k. absurd (omega arith); kept = λ w k m. refl }

  pub upto_next : (new new' : List ℕ) (n m : ℕ) (v : Planes) → Upto f old new n → n < 8 → ((l : ℕ) → l < 64 → lane_of v l ≡ f n l) → new' ≡ row_put new n v
      → m ≡ suc n → Upto f old new' m
  upto_next new new' n m v u h is there next = rw there (record {
    most = omega arith;
    long = length_put new n v ∙ u.long;
    done = λ w l k b. done_at w l k b (dec_lt w n);
    kept = λ w k b. put_other new n v w h b (omega arith) ∙ u.kept w (omega arith) b;
  })
    where
      done_at : (w l : ℕ) → w < m → l < 64 → Dec (w < n) → lane_of (planes_at (row_put new n v) w) l ≡ f w l
      done_at w l k b (yes d) = ap (λ p. lane_of p l) (put_other new n v w h (omega arith) (omega arith)) ∙ u.done w l d b
      done_at w l k b (no d) = let same : w ≡ n = omega arith in rw same (ap (λ p. lane_of p l) (put_same new n v h u.long) ∙ is l b)

pub grown_all : (f : ℕ → ℕ → gf512.Element) (old new : List ℕ) (n : ℕ) → Upto f old new n → 8 ≤ n → Grown f new
grown_all f old new n u h = record { long = u.long; each = λ w l hw hl. u.done w l (omega arith) hl }

-- the product that multiply puts at row n
pub times_row : (old new : List ℕ) (n : ℕ) (x y r : Planes) → Upto (times_cube old) old new n → n < 8
    → x ≡ planes_at new n → y ≡ planes_at CUBES n → Multiplied x y r → (l : ℕ) → l < 64 → lane_of r l ≡ times_cube old n l
unfolding Multiplied Cubes
times_row old new n x y r b h hx hy hr l k =
    hr l ∙ ap₂ gf512.mul (ap (λ p. lane_of p l) (hx ∙ b.kept n (omega arith) h)) (ap (λ p. lane_of p l) hy ∙ cubes_are n l h k)

-- ---- the rows of t, each by one sum

-- the row whose number has the digits x, y, z
abbrev row_by : Affine → ℕ → ℕ → ℕ → ℕ → Element
row_by t x y z l = lane_of t.low l ⊕ element_of x ⊗ lane_of t.six l ⊕ element_of y ⊗ lane_of t.seven l ⊕ element_of z ⊗ lane_of t.eight l

-- in the digits 0, 0, 0 only the lowest part stands; a part that is added sets its digit
low_alone : (lo s6 s7 s8 : Element) → lo ≡ lo ⊕ element_of 0 ⊗ s6 ⊕ element_of 0 ⊗ s7 ⊕ element_of 0 ⊗ s8
low_alone lo s6 s7 s8 = simp (of_0, ring)

six_more : (lo s6 u v : Element) → lo ⊕ element_of 0 ⊗ s6 ⊕ u ⊕ v ⊕ s6 ≡ lo ⊕ element_of 1 ⊗ s6 ⊕ u ⊕ v
six_more lo s6 u v = simp (of_0, of_1, ring)

seven_more : (lo s7 v : Element) → lo ⊕ element_of 0 ⊗ s7 ⊕ v ⊕ s7 ≡ lo ⊕ element_of 1 ⊗ s7 ⊕ v
seven_more lo s7 v = simp (of_0, of_1, ring)

eight_more : (lo s8 : Element) → lo ⊕ element_of 0 ⊗ s8 ⊕ s8 ≡ lo ⊕ element_of 1 ⊗ s8
eight_more lo s8 = simp (of_0, of_1, ring)

module _ (t : Affine) where
  row_low : (l : ℕ) → lane_of t.low l ≡ row_by t 0 0 0 l
  row_low l = low_alone _ _ _ _

  row_six : (v r : Planes) (y z : ℕ) → ((l : ℕ) → lane_of v l ≡ row_by t 0 y z l) → Summed v t.six r → (l : ℕ) → lane_of r l ≡ row_by t 1 y z l
  unfolding Summed
  row_six v r y z is h l = h l ∙ ap (λ u. u ⊕ lane_of t.six l) (is l) ∙ six_more _ _ _ _

  row_seven : (v r : Planes) (x z : ℕ) → ((l : ℕ) → lane_of v l ≡ row_by t x 0 z l) → Summed v t.seven r → (l : ℕ) → lane_of r l ≡ row_by t x 1 z l
  unfolding Summed
  row_seven v r x z is h l = h l ∙ ap (λ u. u ⊕ lane_of t.seven l) (is l) ∙ seven_more _ _ _

  row_eight : (v r : Planes) (x y : ℕ) → ((l : ℕ) → lane_of v l ≡ row_by t x y 0 l) → Summed v t.eight r → (l : ℕ) → lane_of r l ≡ row_by t x y 1 l
  unfolding Summed
  row_eight v r x y is h l = h l ∙ ap (λ u. u ⊕ lane_of t.eight l) (is l) ∙ eight_more _ _

-- the next row of t is added
plus_next : (t : Affine) (old new new' : List ℕ) (n m : ℕ) (v : Planes) → Upto (plus_row old t) old new n → n < 8 → ((l : ℕ) → lane_of v l ≡ row_at t n l)
    → AddedAt new n v new' → m ≡ suc n → Upto (plus_row old t) old new' m
unfolding Summed
plus_next t old new new' n m v u h is (r, hr, there) next =
    upto_next (plus_row old t) old new new' n m r u h
    (λ l k. hr l ∙ ap₂ gf512.add (ap (λ p. lane_of p l) (u.kept n (omega arith) h)) (is l)) there next

-- the eight rows of t, each made of one before it by one sum, are added one after the other
pub plus_all : (t : Affine) (v1 v2 v3 v4 v5 v6 v7 : Planes) → Summed t.low t.six v1 → Summed t.low t.seven v2 → Summed v1 t.seven v3
    → Summed t.low t.eight v4 → Summed v1 t.eight v5 → Summed v2 t.eight v6 → Summed v3 t.eight v7
    → (s0 s1 s2 s3 s4 s5 s6 s7 s8 : List ℕ) → length s0 ≡ 72 → AddedAt s0 0 t.low s1 → AddedAt s1 1 v1 s2 → AddedAt s2 2 v2 s3 → AddedAt s3 3 v3 s4
    → AddedAt s4 4 v4 s5 → AddedAt s5 5 v5 s6 → AddedAt s6 6 v6 s7 → AddedAt s7 7 v7 s8 → Grown (plus_row s0 t) s8
unfolding row_at
plus_all t v1 v2 v3 v4 v5 v6 v7 h1 h2 h3 h4 h5 h6 h7 s0 s1 s2 s3 s4 s5 s6 s7 s8 long a0 a1 a2 a3 a4 a5 a6 a7 =
    let r0 = row_low t in
    let r1 = row_six t _ v1 0 0 r0 h1 in
    let r2 = row_seven t _ v2 0 0 r0 h2 in
    let r3 = row_seven t v1 v3 1 0 r1 h3 in
    let u1 = plus_next t s0 s0 s1 0 1 _ (upto_none (plus_row s0 t) s0 long) (lit< tt) r0 a0 refl in
    let u2 = plus_next t s0 s1 s2 1 2 _ u1 (lit< tt) r1 a1 refl in
    let u3 = plus_next t s0 s2 s3 2 3 _ u2 (lit< tt) r2 a2 refl in
    let u4 = plus_next t s0 s3 s4 3 4 _ u3 (lit< tt) r3 a3 refl in
    let u5 = plus_next t s0 s4 s5 4 5 _ u4 (lit< tt) (row_eight t _ v4 0 0 r0 h4) a4 refl in
    let u6 = plus_next t s0 s5 s6 5 6 _ u5 (lit< tt) (row_eight t v1 v5 1 0 r1 h5) a5 refl in
    let u7 = plus_next t s0 s6 s7 6 7 _ u6 (lit< tt) (row_eight t v2 v6 0 1 r2 h6) a6 refl in
    let u8 = plus_next t s0 s7 s8 7 8 _ u7 (lit< tt) (row_eight t v3 v7 1 1 r3 h7) a7 refl in
    grown_all (plus_row s0 t) s0 s8 8 u8 (omega arith)

-- to sums that are all 0
none_at : (n i : ℕ) → get_or {A = ℕ} (replicate n 0) i 0 ≡ 0
none_at zero i = refl
none_at (suc n) zero = refl
none_at (suc n) (suc i) = none_at n i

lane_none : (w l : ℕ) → lane_of (planes_at (replicate 72 0) w) l ≡ gf512.zero
unfolding lane_of number_at nine bit_of planes_at
lane_none w l =
    let none = none_at 72 in
    rw (none w, none (8 + w), none (16 + w), none (24 + w), none (32 + w), none (40 + w), none (48 + w), none (56 + w), none (64 + w), zero-div (2 ^ l)) of_0

pub filled_none : (t : Affine) {old new : List ℕ} → old ≡ replicate 72 0 → Grown (plus_row old t) new → Filled t new
filled_none t e g = record {
  long = g.long;
  each = λ w l hw hl. g.each w l hw hl ∙ ap (λ (s : List ℕ). lane_of (planes_at s w) l ⊕ row_at t w l) e ∙ ap (λ (x : Element). x ⊕ row_at t w l) (lane_none w l) ∙ gf512.zero-add (row_at t w l);
}

pub advanced_law : (t : Affine) (old mid new : List ℕ) → Grown (times_cube old) mid → Grown (plus_row mid t) new → Advanced t old new
advanced_law t old mid new g h = record {
  long = h.long;
  each = λ w l hw hl. h.each w l hw hl ∙ ap (λ u. gf512.add u (row_at t w l)) (g.each w l hw hl);
}

-- ---- zeros, row by row

-- the first n machine words of z tell the zeros of their rows
pub record Seen (s z : List ℕ) (n : ℕ) : Type 0 where
  pub most : n ≤ 8
  pub long : length z ≡ 8
  pub done : (w : ℕ) → w < n → Vanishing (planes_at s w) (get_or z w 0)

module _ (s : List ℕ) where
  pub seen_none : (z : List ℕ) → length z ≡ 8 → Seen s z 0
  seen_none z h = record { most = omega arith; long = h; done = λ w k. absurd (omega arith) }

  pub seen_next : (z : List ℕ) (n m : ℕ) (x : Planes) (v : ℕ) → Seen s z n → n < 8 → x ≡ planes_at s n → Vanishing x v → m ≡ suc n → Seen s (set z n v) m
  seen_next z n m x v u h e k next = record {
    most = omega arith;
    long = length-set z n v ∙ u.long;
    done = λ w b. done_at w b (dec_lt w n);
  }
    where
      done_at : (w : ℕ) → w < m → Dec (w < n) → Vanishing (planes_at s w) (get_or (set z n v) w 0)
      done_at w b (yes d) = rw (get_or-set_other z n w v 0 (omega arith)) (u.done w d)
      done_at w b (no d) =
          let same : w ≡ n = omega arith in
          rw (same, get_or-set_same z n v 0 (omega (arith, u.long))) (rw e at k)

  pub seen_all : (z : List ℕ) (n : ℕ) → Seen s z n → 8 ≤ n → RowsTold s z
  unfolding RowsTold Vanishing
  seen_all z n u h w l hw hl = u.done w (omega arith) l hl
