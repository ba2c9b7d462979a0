-- Horner's rule, many digits at a time.
-- Assumes nothing.
use mathlib.Core.Path.{◌≡◌, refl, sym, ap, ◌∙◌}
use mathlib.Core.List.{List, [], ◌∷◌, ◌++◌, append-nil}
use Prim.Native.Nat.{ℕ, zero, suc, ◌+◌, ◌-◌, ◌*◌, ◌/◌, ◌%◌, ◌^◌, ◌≤◌, ◌<◌}
use native.Mathlib.Nat.{div-eq_of_lt, suc-add, zero-add, lt_of_lt_of_le, mul-le-mul_right, mul_comm, mod-lt}
use lib.Dec.{lit<}
use native.Mathlib.Omega.{arith}
use borrow.Author.Count.{below_more}
use lib.Bits.{bit_xor}
use lib.ListN.{length, get_or, set, take, replicate, length-set, length-replicate, get_or-append}
use lib.Seq.{length-take-le, get_or-set_same, get_or-set_other}
use lib.Pow.{pow_mono, shr-shr}
use Rattle.algebra.proofs.Fields.{ring, add-zero}
use Rattle.algebra.proofs.Powers.{pow, pow-mul}
use Rattle.field.proofs.Elements.{gf512, element_of, of_0, of_xor}
use Rattle.field.proofs.Values.{a, series, value, value_from, value_from_start, value-nil, value-cons, value-append}
use Rattle.bits.specs.Words.{digits}
use Rattle.bits.proofs.Digits.{length_digits}
use Rattle.bch.specs.Registers.{tops}
use Rattle.bch.proofs.Nibbles.{eight_digits}
use Rattle.bch.proofs.Tops.{tops_more, tops_shifted}
use Rattle.decoder.specs.Syndromes.{odd_power, Taken, Odds, DigitValues}
open gf512 use {Element, zero as 𝟘, add as ◌⊕◌, mul as ◌⊗◌}

infixl 60 ◌⊕◌
infixl 70 ◌⊗◌
-- ---- values

value_more : (v x : Element) (bs cs : List ℕ) → value_from v x (bs ++ cs) ≡ value_from (value_from v x bs) x cs
unfolding value_from
value_more v x [] cs = refl
value_more v x (b ∷ bs) cs = value_more (v ⊗ x ⊕ element_of b) x bs cs

-- zeros before the digits of a small number count nothing
value_below : (x : Element) (k m b : ℕ) → b < 2 ^ m → value x (digits (k + m) b) ≡ value x (digits m b)
unfolding digits
value_below x zero m b h = ap (λ (n : ℕ). value x (digits n b)) (zero-add m)
value_below x (suc k) m b h =
    let l : m ≤ k + m = omega arith in
    let z : b / 2 ^ (k + m) ≡ 0 = div-eq_of_lt (lt_of_lt_of_le h (pow_mono l)) in
    ap (λ (n : ℕ). value x (digits n b)) (suc-add k m) ∙ value-cons x (b / 2 ^ (k + m) % 2) (digits (k + m) b) ∙ rw (z, of_0, value_below x k m b h) (simp ring)

-- ---- a step: m digits of b, and what the table says of its four high and its four low ones

value_zeros : (x : Element) → value x (replicate 4 0) ≡ 𝟘
value_zeros x = simp (value-cons, of_0, value-nil, ring)

module _ (m b : ℕ) (few : m ≤ 8) (fits : b < 2 ^ m) where
  pub byte : b < 256
  byte = lt_of_lt_of_le fits (pow_mono few)

  module _ {table : List ℕ} (t : DigitValues table) (l : ℕ) (low : l < 16) where
    abbrev high_at : ℕ
    high_at = get_or table (256 + b / 16 * 16 + l) 0

    abbrev low_at : ℕ
    low_at = get_or table (b % 16 * 16 + l) 0

    high_value : element_of high_at ≡ value (odd_power l) (digits 4 (b / 16)) ⊗ pow gf512 (odd_power l) 4
    high_value =
        let v = digits 4 (b / 16) in
        let h : b / 16 < 16 = omega (arith, byte) in
        t.high (b / 16) l h low ∙ value-append (odd_power l) v (replicate 4 0) ∙ rw value_zeros (add-zero gf512 _)

    low_value : element_of low_at ≡ value (odd_power l) (digits 4 (b % 16))
    low_value =
        ap (λ (n : ℕ). element_of (get_or table (n + l) 0)) (sym (zero-add (b % 16 * 16))) ∙ t.low (b % 16) l (mod-lt b (lit< tt)) low
        ∙ ap (value (odd_power l)) (append-nil _)

    value_read : value (odd_power l) (digits m b) ≡ element_of high_at ⊕ element_of low_at
    value_read =
        let e : 8 - m + m ≡ 8 = omega arith in
        let x = odd_power l in
        sym (value_below x (8 - m) m b fits) ∙ ap (λ (n : ℕ). value x (digits n b)) e ∙ ap (value x) (eight_digits b)
        ∙ value-append x (digits 4 (b / 16)) (digits 4 (b % 16)) ∙ rw (high_value, low_value, length_digits)

    pub step : (s up : ℕ) → element_of up ≡ element_of s ⊗ pow gf512 a (m * (2 * l + 1))
        → element_of (bit_xor (bit_xor up high_at) low_at) ≡ value_from (element_of s) (odd_power l) (digits m b)
    step s up is =
        of_xor (bit_xor up high_at) low_at ∙ ap (λ (u : Element). u ⊕ element_of low_at) (of_xor up high_at)
        ∙ sym (value_from_start (element_of s) (odd_power l) (digits m b) ∙ rw (value_read, length_digits, pow-mul, is, mul_comm m (2 * l + 1)) (simp ring))

pub exponent : (m l : ℕ) → m ≤ 8 → l < 16 → m * (2 * l + 1) < 256
exponent m l few low = let e : m * (2 * l + 1) ≤ 8 * (2 * l + 1) = mul-le-mul_right (2 * l + 1) few in omega arith

-- ---- sums that take in coefficients one after the other

nothing_at : (n m i : ℕ) → ◌≡◌ {A = ℕ} (get_or (take n (replicate m 0)) i 0) 0
nothing_at zero m i = refl
nothing_at (suc n) zero i = refl
nothing_at (suc n) (suc m) zero = refl
nothing_at (suc n) (suc m) (suc i) = nothing_at n m i

module _ (bits old : List ℕ) where
  -- the first n sums have taken them in, and the others are as they were
  pub record TakenBelow (new : List ℕ) (n : ℕ) : Type 0 where
    pub long : length new ≡ length old
    pub done : (k : ℕ) → k < n → series new k ≡ value_from (series old k) (odd_power k) bits
    pub kept : (k : ℕ) → n ≤ k → get_or new k 0 ≡ get_or old k 0

  pub below_0 : TakenBelow old 0
  below_0 = record { long = refl; done = λ k h. absurd (omega arith); kept = λ k h. refl }

  pub below_next : {new new' : List ℕ} {i : ℕ} (p : ℕ) → TakenBelow new i → i < length old → new' ≡ set new i p
      → element_of p ≡ value_from (element_of (get_or new i 0)) (odd_power i) bits → TakenBelow new' (i + 1)
  unfolding series
  below_next {new} {new'} {i} p b low there is = rw there (record {
    long = length-set new i p ∙ b.long;
    done = below_more (λ k. series (set new i p) k ≡ value_from (series old k) (odd_power k) bits) i
        (λ k h. ap element_of (get_or-set_other new i k p 0 (omega arith)) ∙ b.done k h)
        (ap element_of (get_or-set_same new i p 0 (omega (arith, b.long))) ∙ is ∙ ap (λ (n : ℕ). value_from (element_of n) (odd_power i) bits) (b.kept i (omega arith)));
    kept = λ k h. get_or-set_other new i k p 0 (omega arith) ∙ b.kept k (omega arith);
  })

  pub below_all : {new : List ℕ} {n : ℕ} → TakenBelow new n → length old ≤ n → Taken bits old new
  below_all b all = record { long = b.long; each = λ k h. b.done k (omega arith) }

pub taken_none : (y : ℕ) (l : List ℕ) → Taken (tops 0 y) l l
unfolding value_from tops
taken_none y l = record { long = refl; each = λ k h. refl }

taken_both : {bits bits' old mid new : List ℕ} → Taken bits old mid → Taken bits' mid new → Taken (bits ++ bits') old new
taken_both {bits} {bits'} u v = record {
  long = v.long ∙ u.long;
  each = λ l h. v.each l (omega (arith, u.long)) ∙ rw (u.each l h) (sym (value_more _ (odd_power l) bits bits'));
}

-- the first eight of d digits at the top, and then the others
pub taken_eight : {old mid new : List ℕ} (d t y z : ℕ) → 8 ≤ d → t ≡ y / 2 ^ 184 → z ≡ y * 256 % 2 ^ 192
    → Taken (digits 8 t) old mid → Taken (tops (d - 8) z) mid new → Taken (tops d y) old new
taken_eight d t y z h et ez u v =
    let e : d ≡ 8 + (d - 8) = omega arith in
    rw (e, tops_more 7 (d - 8) y, tops_shifted 8 184 y refl, ← et, ← ez) (taken_both u v)

-- the first d of eight
pub taken_few : {old new : List ℕ} (d t y : ℕ) → d ≤ 8 → t ≡ y / 2 ^ 184 → Taken (digits d (t / 2 ^ (8 - d))) old new → Taken (tops d y) old new
taken_few {old} {new} d t y h et u =
    let e : 184 + (8 - d) ≡ 192 - d = omega arith in
    rw (tops_shifted d (192 - d) y (omega arith), ← e, ← (shr-shr y 184 (8 - d)), ← et) u

-- what the first n of m sums of nothing have taken in are the values
pub odds_of : {bits : List ℕ} (n m : ℕ) {zs ys : List ℕ} → zs ≡ replicate m 0 → n ≤ m → Taken bits (take n zs) ys
    → (rest : List ℕ) → Odds bits n (ys ++ rest)
unfolding series value
odds_of n m {zs} {ys} z fit u rest l h =
    let long : length (take n zs) ≡ n = rw z (length-take-le n (replicate m 0) (rw length-replicate fit)) in
    ap element_of (get_or-append ys rest 0 l (omega (arith, long, u.long))) ∙ u.each l (omega (arith, long)) ∙ rw (z, nothing_at n m l, of_0)
