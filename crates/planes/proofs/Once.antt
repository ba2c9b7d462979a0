-- The contracts of the crate leave one result: a machine word is told by its 64 bits, planes by their lanes, and four of these by their eight rows.
-- Assumes nothing.
use mathlib.Core.Path.{◌≡◌, sym, ap₂, ◌∙◌}
use mathlib.Core.Logic.{by_cases}
use Prim.Native.Nat.{ℕ, zero, suc, ◌+◌, ◌*◌, ◌%◌, ◌^◌, ◌<◌}
use native.Mathlib.Nat.{mod-one, mod-eq_of_lt}
use native.Mathlib.Numerals.{one-add}
use native.Mathlib.Omega.{arith}
use lib.Dec.{lit<}
use lib.Pow.{mod-pow-add}
use Rattle.algebra.proofs.Fields.{ring}
use Rattle.field.proofs.Elements.{gf512, of_0, of_1}
use Rattle.field.proofs.Values.{of_inj}
use Rattle.planes.specs.Lanes.{bit_of, nine, number_at, lane_of, Vanishing, row_at}
use Rattle.planes.specs.declared.Planes.{Planes}
use Rattle.planes.specs.declared.Affine.{Affine}
use Rattle.planes.proofs.Digits.{bit_lt}
use Rattle.planes.proofs.Vanishings.{number_lt}
open gf512 use {zero as 𝟘, add as ◌⊕◌, same?}

infixl 60 ◌⊕◌
-- ---- machine words

-- the r low bits are a number below 2^r
low_once : (r x y : ℕ) → ((l : ℕ) → l < r → bit_of x l ≡ bit_of y l) → x % 2 ^ r ≡ y % 2 ^ r
unfolding bit_of
low_once zero x y h = mod-one x ∙ sym (mod-one y)
low_once (suc r) x y h =
    (rw one-add at (mod-pow-add x 1 r))
    ∙ ap₂ (λ (t m : ℕ). t * 2 ^ r + m) (h r (omega arith)) (low_once r x y (λ l k. h l (omega arith)))
    ∙ sym (rw one-add at (mod-pow-add y 1 r))

pub lanes_once : (x y : ℕ) → x < 2 ^ 64 → y < 2 ^ 64 → ((l : ℕ) → l < 64 → bit_of x l ≡ bit_of y l) → x ≡ y
lanes_once x y hx hy h = sym (mod-eq_of_lt hx) ∙ low_once 64 x y h ∙ mod-eq_of_lt hy

pub zeros_once : (v : Planes) (y z : ℕ) → y < 2 ^ 64 → z < 2 ^ 64 → Vanishing v y → Vanishing v z → y ≡ z
unfolding Vanishing
zeros_once v y z hy hz ty tz =
    lanes_once y z hy hz
    (λ l h. by_cases (same? (lane_of v l) 𝟘) (λ e. (ty l h).0 e ∙ sym ((tz l h).0 e)) (λ n. (ty l h).1 n ∙ sym ((tz l h).1 n)))

-- ---- planes

-- they are machine words
pub record Wide (p : Planes) : Type 0 where
  pub p0 : p.p0 < 2 ^ 64
  pub p1 : p.p1 < 2 ^ 64
  pub p2 : p.p2 < 2 ^ 64
  pub p3 : p.p3 < 2 ^ 64
  pub p4 : p.p4 < 2 ^ 64
  pub p5 : p.p5 < 2 ^ 64
  pub p6 : p.p6 < 2 ^ 64
  pub p7 : p.p7 < 2 ^ 64
  pub p8 : p.p8 < 2 ^ 64

-- the lowest digit, and the others
apart : (x y l : ℕ) {m n : ℕ} → bit_of x l + 2 * m ≡ bit_of y l + 2 * n → (bit_of x l ≡ bit_of y l) × (m ≡ n)
apart x y l e =
    let h = bit_lt x l in
    let k = bit_lt y l in
    (omega arith, omega arith)

module _ (p q : Planes) where
  -- bit l of each plane
  bits_once : (l : ℕ) → lane_of p l ≡ lane_of q l
      → (bit_of p.p0 l ≡ bit_of q.p0 l) × (bit_of p.p1 l ≡ bit_of q.p1 l) × (bit_of p.p2 l ≡ bit_of q.p2 l)
      × (bit_of p.p3 l ≡ bit_of q.p3 l) × (bit_of p.p4 l ≡ bit_of q.p4 l) × (bit_of p.p5 l ≡ bit_of q.p5 l)
      × (bit_of p.p6 l ≡ bit_of q.p6 l) × (bit_of p.p7 l ≡ bit_of q.p7 l) × (bit_of p.p8 l ≡ bit_of q.p8 l)
  unfolding lane_of number_at nine
  bits_once l e =
      let s0 = apart p.p0 q.p0 l (of_inj (number_at p l) (number_at q l) (number_lt p l) (number_lt q l) e) in
      let s1 = apart p.p1 q.p1 l s0.1 in
      let s2 = apart p.p2 q.p2 l s1.1 in
      let s3 = apart p.p3 q.p3 l s2.1 in
      let s4 = apart p.p4 q.p4 l s3.1 in
      let s5 = apart p.p5 q.p5 l s4.1 in
      let s6 = apart p.p6 q.p6 l s5.1 in
      let s7 = apart p.p7 q.p7 l s6.1 in
      (s0.0, s1.0, s2.0, s3.0, s4.0, s5.0, s6.0, s7.0, s7.1)

  pub planes_once : Wide p → Wide q → ((l : ℕ) → l < 64 → lane_of p l ≡ lane_of q l) → p ≡ q
  planes_once wp wq h = λ i. record {
    p0 = lanes_once p.p0 q.p0 wp.p0 wq.p0 (λ l k. (bits_once l (h l k)).0) i;
    p1 = lanes_once p.p1 q.p1 wp.p1 wq.p1 (λ l k. (bits_once l (h l k)).1) i;
    p2 = lanes_once p.p2 q.p2 wp.p2 wq.p2 (λ l k. (bits_once l (h l k)).2) i;
    p3 = lanes_once p.p3 q.p3 wp.p3 wq.p3 (λ l k. (bits_once l (h l k)).3) i;
    p4 = lanes_once p.p4 q.p4 wp.p4 wq.p4 (λ l k. (bits_once l (h l k)).4) i;
    p5 = lanes_once p.p5 q.p5 wp.p5 wq.p5 (λ l k. (bits_once l (h l k)).5) i;
    p6 = lanes_once p.p6 q.p6 wp.p6 wq.p6 (λ l k. (bits_once l (h l k)).6) i;
    p7 = lanes_once p.p7 q.p7 wp.p7 wq.p7 (λ l k. (bits_once l (h l k)).7) i;
    p8 = lanes_once p.p8 q.p8 wp.p8 wq.p8 (λ l k. (bits_once l (h l k)).8) i;
  }

-- ---- rows

-- the planes of four are machine words
pub record WideRows (t : Affine) : Type 0 where
  pub low : Wide t.low
  pub six : Wide t.six
  pub seven : Wide t.seven
  pub eight : Wide t.eight

-- each of the four is told by the rows 0, 1, 2 and 4
module _ (t : Affine) (l : ℕ) where
  low_row : lane_of t.low l ≡ row_at t 0 l
  unfolding row_at
  low_row = simp (of_0, ring)

  six_row : lane_of t.six l ≡ row_at t 0 l ⊕ row_at t 1 l
  unfolding row_at
  six_row = simp (of_0, of_1, ring)

  seven_row : lane_of t.seven l ≡ row_at t 0 l ⊕ row_at t 2 l
  unfolding row_at
  seven_row = simp (of_0, of_1, ring)

  eight_row : lane_of t.eight l ≡ row_at t 0 l ⊕ row_at t 4 l
  unfolding row_at
  eight_row = simp (of_0, of_1, ring)

pub affine_once : (t u : Affine) → WideRows t → WideRows u → ((w l : ℕ) → w < 8 → l < 64 → row_at t w l ≡ row_at u w l) → t ≡ u
affine_once t u wt wu h = λ i. record {
  low = planes_once t.low u.low wt.low wu.low (λ l k. low_row t l ∙ first l k ∙ sym (low_row u l)) i;
  six = planes_once t.six u.six wt.six wu.six (λ l k. six_row t l ∙ sums 1 (lit< tt) l k ∙ sym (six_row u l)) i;
  seven = planes_once t.seven u.seven wt.seven wu.seven (λ l k. seven_row t l ∙ sums 2 (lit< tt) l k ∙ sym (seven_row u l)) i;
  eight = planes_once t.eight u.eight wt.eight wu.eight (λ l k. eight_row t l ∙ sums 4 (lit< tt) l k ∙ sym (eight_row u l)) i;
}
  where
    first : (l : ℕ) → l < 64 → row_at t 0 l ≡ row_at u 0 l
    first l k = h 0 l (lit< tt) k

    sums : (w : ℕ) → w < 8 → (l : ℕ) → l < 64 → row_at t 0 l ⊕ row_at t w l ≡ row_at u 0 l ⊕ row_at u w l
    sums w b l k = ap₂ ◌⊕◌ (first l k) (h w l b k)
