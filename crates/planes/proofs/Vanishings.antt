-- The lanes that hold 0: those at which no plane has a bit.
-- Assumes nothing.
use mathlib.Core.Path.{◌≡◌, refl, sym, ap, ◌∙◌}
use mathlib.Core.Logic.{◌≢◌}
use Prim.Native.Nat.{ℕ, ◌+◌, ◌/◌, ◌%◌, ◌^◌, ◌<◌, max}
use native.Mathlib.Nat.{mod-eq_of_lt}
use native.Mathlib.Omega.{arith}
use lib.Bits.{bit_xor, bit_or, or_shr, or_mod}
use Rattle.field.proofs.Elements.{gf512, element_of, of_0, of_zero}
use Rattle.planes.specs.Lanes.{bit_of, nine, number_at, lane_of, Vanishing}
use Rattle.planes.specs.declared.Planes.{Planes}
use Rattle.planes.proofs.Digits.{bit_lt, bit_xor_lem, by_bit}
use Rattle.planes.proofs.Masks.{full, full_bit}

-- ---- a lane holds zero exactly where its number is 0

pub number_lt : (p : Planes) (l : ℕ) → number_at p l < 512
unfolding number_at nine
number_lt p l =
    omega (
      arith,
      bit_lt p.p0 l,
      bit_lt p.p1 l,
      bit_lt p.p2 l,
      bit_lt p.p3 l,
      bit_lt p.p4 l,
      bit_lt p.p5 l,
      bit_lt p.p6 l,
      bit_lt p.p7 l,
      bit_lt p.p8 l,
    )

lane_zero : (p : Planes) (l : ℕ) → lane_of p l ≡ gf512.zero → number_at p l ≡ 0
unfolding lane_of
lane_zero p l e = sym (mod-eq_of_lt (number_lt p l)) ∙ of_zero (number_at p l) e

zero_lane : (p : Planes) (l : ℕ) → number_at p l ≡ 0 → lane_of p l ≡ gf512.zero
unfolding lane_of
zero_lane p l e = ap element_of e ∙ of_0

-- ---- the OR of the planes has a lane exactly where the number is not 0

or_digits : (x y l : ℕ) → bit_of (bit_or x y) l ≡ bit_or (bit_of x l) (bit_of y l)
unfolding bit_of
or_digits x y l = ap (λ (n : ℕ). n % 2) (or_shr x y l) ∙ or_mod (x / 2 ^ l) (y / 2 ^ l) 1

pub bit_or_lem : (x y l : ℕ) → bit_of (bit_or x y) l ≡ max (bit_of x l) (bit_of y l)
bit_or_lem x y l =
    or_digits x y l
    ∙ by_bit (λ (m : ℕ). bit_or m (bit_of y l) ≡ max m (bit_of y l)) (by_bit (λ (n : ℕ). bit_or 0 n ≡ max 0 n) refl refl y l)
    (by_bit (λ (n : ℕ). bit_or 1 n ≡ max 1 n) refl refl y l) x l

or_parts : (x y l : ℕ) → bit_of (bit_or x y) l ≡ 0 → (bit_of x l ≡ 0) × (bit_of y l ≡ 0)
or_parts x y l e = let h = bit_or_lem x y l in (omega arith, omega arith)

or_none : (x y l : ℕ) → bit_of x l ≡ 0 → bit_of y l ≡ 0 → bit_of (bit_or x y) l ≡ 0
or_none x y l d e = let h = bit_or_lem x y l in omega arith

module _ (v : Planes) where
  -- the OR of the planes up to each, and of all nine
  abbrev or1 : ℕ
  or1 = bit_or v.p0 v.p1

  abbrev or2 : ℕ
  or2 = bit_or or1 v.p2

  abbrev or3 : ℕ
  or3 = bit_or or2 v.p3

  abbrev or4 : ℕ
  or4 = bit_or or3 v.p4

  abbrev or5 : ℕ
  or5 = bit_or or4 v.p5

  abbrev or6 : ℕ
  or6 = bit_or or5 v.p6

  abbrev or7 : ℕ
  or7 = bit_or or6 v.p7

  abbrev joint : ℕ
  joint = bit_or or7 v.p8

  joint_number : (l : ℕ) → bit_of joint l ≡ 0 → number_at v l ≡ 0
  unfolding number_at nine
  joint_number l e =
      let e8 = or_parts or7 v.p8 l e in
      let e7 = or_parts or6 v.p7 l e8.0 in
      let e6 = or_parts or5 v.p6 l e7.0 in
      let e5 = or_parts or4 v.p5 l e6.0 in
      let e4 = or_parts or3 v.p4 l e5.0 in
      let e3 = or_parts or2 v.p3 l e4.0 in
      let e2 = or_parts or1 v.p2 l e3.0 in
      let e1 = or_parts v.p0 v.p1 l e2.0 in
      omega (arith, e1.0, e1.1, e2.1, e3.1, e4.1, e5.1, e6.1, e7.1, e8.1)

  number_joint : (l : ℕ) → number_at v l ≡ 0 → bit_of joint l ≡ 0
  unfolding number_at nine
  number_joint l e =
      let n1 = or_none v.p0 v.p1 l (omega arith) (omega arith) in
      let n2 = or_none or1 v.p2 l n1 (omega arith) in
      let n3 = or_none or2 v.p3 l n2 (omega arith) in
      let n4 = or_none or3 v.p4 l n3 (omega arith) in
      let n5 = or_none or4 v.p5 l n4 (omega arith) in
      let n6 = or_none or5 v.p6 l n5 (omega arith) in
      let n7 = or_none or6 v.p7 l n6 (omega arith) in
      or_none or7 v.p8 l n7 (omega arith)

-- the other bit
other : (x l : ℕ) → l < 64 → bit_of (bit_xor x full) l + bit_of x l ≡ 1
other x l h =
    ap (λ (d : ℕ). d + bit_of x l) (bit_xor_lem x full l ∙ ap (bit_xor (bit_of x l)) (full_bit l h))
    ∙ by_bit (λ (d : ℕ). bit_xor d 1 + d ≡ 1) refl refl x l

pub zeros_law : (v : Planes) → Vanishing v (bit_xor (joint v) full)
unfolding Vanishing
zeros_law v l h =
    let bit = other (joint v) l h in
    let none : lane_of v l ≡ gf512.zero → bit_of (joint v) l ≡ 0 = λ e. number_joint v l (lane_zero v l e) in
    let some : lane_of v l ≢ gf512.zero → bit_of (joint v) l ≢ 0 = λ n e. n (zero_lane v l (joint_number v l e)) in
    ((λ e. (let b = none e in omega arith)), (λ n. (let b = some n in omega arith)))
