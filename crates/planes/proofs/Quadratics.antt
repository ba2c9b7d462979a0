-- c + d x + e x^2, digit of x by digit of x: squaring is additive, and a digit is its own square.
-- Assumes nothing.
use mathlib.Core.Path.{◌≡◌, sym, ap, ◌∙◌}
use Prim.Native.Nat.{ℕ, ◌+◌, ◌*◌, ◌/◌, ◌%◌, ◌<◌}
use native.Mathlib.Omega.{arith}
use lib.Dec.{T, eqb}
use Rattle.ground.proofs.Tests.{all, all_equal}
use Rattle.algebra.proofs.Fields.{ring}
use Rattle.field.proofs.Elements.{gf512, element_of}
use Rattle.field.proofs.Values.{a}
use Rattle.planes.specs.Lanes.{bit_of, lane_of, lane_bit, PlusWhere, Summed, TimesA, Throughout}
use Rattle.planes.specs.Lanes.{value_of, rest_at, DigitTaken, LowsTaken, Begun, row_at, Highs, Quadratic}
use Rattle.planes.specs.declared.Planes.{Planes}
use Rattle.planes.specs.declared.Trio.{Trio}
use Rattle.planes.specs.declared.Affine.{Affine}
use Rattle.planes.proofs.Digits.{bit_lt, lane_square, of_digit}
open gf512 use {Element, add as ◌⊕◌, mul as ◌⊗◌}

infixl 60 ◌⊕◌
infixl 70 ◌⊗◌
-- ---- one digit, y

square : (y x : Element) → y ⊗ y ≡ y → (y ⊕ a ⊗ x) ⊗ (y ⊕ a ⊗ x) ≡ y ⊕ a ⊗ (a ⊗ (x ⊗ x))
square y x h = expanded ∙ ap (λ u. u ⊕ a ⊗ (a ⊗ (x ⊗ x))) h
  where
    expanded : (y ⊕ a ⊗ x) ⊗ (y ⊕ a ⊗ x) ≡ y ⊗ y ⊕ a ⊗ (a ⊗ (x ⊗ x))
    expanded = simp ring

gathered : (v d e y x : Element)
    → v ⊕ (d ⊗ (y ⊕ a ⊗ x) ⊕ e ⊗ (y ⊕ a ⊗ (a ⊗ (x ⊗ x)))) ≡ v ⊕ y ⊗ (d ⊕ e) ⊕ (a ⊗ d ⊗ x ⊕ a ⊗ (a ⊗ e) ⊗ (x ⊗ x))
gathered v d e y x = simp ring

value_digit : (v d e y x : Element) → y ⊗ y ≡ y → value_of v d e (y ⊕ a ⊗ x) ≡ value_of (v ⊕ y ⊗ (d ⊕ e)) (a ⊗ d) (a ⊗ (a ⊗ e)) x
unfolding value_of
value_digit v d e y x h = ap (λ s. v ⊕ (d ⊗ (y ⊕ a ⊗ x) ⊕ e ⊗ s)) (square y x h) ∙ gathered v d e y x

gathered_last : (v d e y : Element) → v ⊕ (d ⊗ y ⊕ e ⊗ y) ≡ v ⊕ y ⊗ (d ⊕ e)
gathered_last v d e y = simp ring

value_last : (v d e y : Element) → y ⊗ y ≡ y → value_of v d e y ≡ v ⊕ y ⊗ (d ⊕ e)
unfolding value_of
value_last v d e y h = ap (λ s. v ⊕ (d ⊗ y ⊕ e ⊗ s)) h ∙ gathered_last v d e y

pub digit_law : (t : Trio) (y : ℕ) (s v d e1 e2 : Planes) → Summed t.d t.e s → PlusWhere t.v s y v → TimesA t.d d → TimesA t.e e1
    → TimesA e1 e2 → DigitTaken t y (record { v = v; d = d; e = e2 })
unfolding DigitTaken rest_at Summed PlusWhere TimesA
digit_law t y s v d e1 e2 hs hv hd h1 h2 l x =
    rw (hv l, hs l, hd l, h2 l, h1 l) (sym (value_digit _ _ _ (lane_bit y l) x (lane_square y l)))

-- ---- the six digits of a lane's number: bit l of mask k is bit k of l

test_0 : T (all 64 (λ l. eqb (bit_of 0xaaaa_aaaa_aaaa_aaaa l) (bit_of l 0)))
unfolding bit_of
test_0 = tt

test_1 : T (all 64 (λ l. eqb (bit_of 0xcccc_cccc_cccc_cccc l) (bit_of l 1)))
unfolding bit_of
test_1 = tt

test_2 : T (all 64 (λ l. eqb (bit_of 0xf0f0_f0f0_f0f0_f0f0 l) (bit_of l 2)))
unfolding bit_of
test_2 = tt

test_3 : T (all 64 (λ l. eqb (bit_of 0xff00_ff00_ff00_ff00 l) (bit_of l 3)))
unfolding bit_of
test_3 = tt

test_4 : T (all 64 (λ l. eqb (bit_of 0xffff_0000_ffff_0000 l) (bit_of l 4)))
unfolding bit_of
test_4 = tt

test_5 : T (all 64 (λ l. eqb (bit_of 0xffff_ffff_0000_0000 l) (bit_of l 5)))
unfolding bit_of
test_5 = tt

lane_mask : (m k : ℕ) → T (all 64 (λ l. eqb (bit_of m l) (bit_of l k))) → (l : ℕ) → l < 64 → lane_bit m l ≡ lane_bit l k
unfolding lane_bit
lane_mask m k t l h = ap element_of (all_equal 64 (bit_of m) (λ l. bit_of l k) t l h)

-- the lowest digit of n, and the others
digit_of : (n x k m : ℕ) → m < 256 → n ≡ bit_of x k + 2 * m → element_of n ≡ lane_bit x k ⊕ a ⊗ element_of m
unfolding lane_bit
digit_of n x k m h e = ap element_of e ∙ of_digit (bit_of x k) m (bit_lt x k) h

lane_digits : (w l : ℕ) → w < 8 → l < 64
    → element_of (64 * w + l)
    ≡ lane_bit l 0 ⊕ a ⊗ (lane_bit l 1 ⊕ a ⊗ (lane_bit l 2 ⊕ a ⊗ (lane_bit l 3 ⊕ a ⊗ (lane_bit l 4 ⊕ a ⊗ (lane_bit l 5 ⊕ a ⊗ element_of w)))))
unfolding bit_of
lane_digits w l hw hl =
    digit_of (64 * w + l) l 0 (32 * w + l / 2) (omega arith) (omega arith)
    ∙ under 0 (digit_of (32 * w + l / 2) l 1 (16 * w + l / 4) (omega arith) (omega arith)
    ∙ under 1 (digit_of (16 * w + l / 4) l 2 (8 * w + l / 8) (omega arith) (omega arith)
    ∙ under 2 (digit_of (8 * w + l / 8) l 3 (4 * w + l / 16) (omega arith) (omega arith)
    ∙ under 3 (digit_of (4 * w + l / 16) l 4 (2 * w + l / 32) (omega arith) (omega arith)
    ∙ under 4 (digit_of (2 * w + l / 32) l 5 w (omega arith) (omega arith))))))
  where
    under : (k : ℕ) {x y : Element} → x ≡ y → lane_bit l k ⊕ a ⊗ x ≡ lane_bit l k ⊕ a ⊗ y
    under k e = ap (λ u. lane_bit l k ⊕ a ⊗ u) e

pub lows_law : (t t1 t2 t3 t4 t5 r : Trio) → DigitTaken t 0xaaaa_aaaa_aaaa_aaaa t1 → DigitTaken t1 0xcccc_cccc_cccc_cccc t2
    → DigitTaken t2 0xf0f0_f0f0_f0f0_f0f0 t3 → DigitTaken t3 0xff00_ff00_ff00_ff00 t4 → DigitTaken t4 0xffff_0000_ffff_0000 t5
    → DigitTaken t5 0xffff_ffff_0000_0000 r → LowsTaken t r
unfolding DigitTaken LowsTaken
lows_law t t1 t2 t3 t4 t5 r h0 h1 h2 h3 h4 h5 w l hw hl =
    h5 l _ ∙ h4 l _ ∙ h3 l _ ∙ h2 l _ ∙ h1 l _ ∙ h0 l _
    ∙ ap (rest_at t l)
    (rw (
      lane_mask _ 0 test_0 l hl,
      lane_mask _ 1 test_1 l hl,
      lane_mask _ 2 test_2 l hl,
      lane_mask _ 3 test_3 l hl,
      lane_mask _ 4 test_4 l hl,
      lane_mask _ 5 test_5 l hl,
    )
    (sym (lane_digits w l hw hl)))

-- ---- the three digits of a row's number

row_digits : (w : ℕ) → w < 8 → element_of w ≡ lane_bit w 0 ⊕ a ⊗ (lane_bit w 1 ⊕ a ⊗ lane_bit w 2)
unfolding bit_of lane_bit
row_digits w h =
    digit_of w w 0 (w / 2) (omega arith) (omega arith)
    ∙ ap (λ u. lane_bit w 0 ⊕ a ⊗ u) (digit_of (w / 2) w 1 (w / 4 % 2) (omega arith) (omega arith))

lowest : (x : ℕ) → element_of (x % 2) ≡ lane_bit x 0
unfolding lane_bit bit_of
lowest x = let e : x ≡ x / 1 = omega arith in ap (λ (n : ℕ). element_of (n % 2)) e

-- what each of the three adds
value_row : (v d e : Element) (w : ℕ) → w < 8
    → value_of v d e (element_of w)
    ≡ v ⊕ lane_bit w 0 ⊗ (d ⊕ e) ⊕ lane_bit w 1 ⊗ (a ⊗ d ⊕ a ⊗ (a ⊗ e)) ⊕ lane_bit w 2 ⊗ (a ⊗ (a ⊗ d) ⊕ a ⊗ (a ⊗ (a ⊗ (a ⊗ e))))
value_row v d e w h =
    ap (value_of v d e) (row_digits w h)
    ∙ value_digit _ _ _ _ _ (lane_square w 0)
    ∙ value_digit _ _ _ _ _ (lane_square w 1)
    ∙ value_last _ _ _ _ (lane_square w 2)

pub highs_law : (t : Trio) (d7 e7' e7 d8 e8' e8 six seven eight : Planes) → TimesA t.d d7 → TimesA t.e e7' → TimesA e7' e7 → TimesA d7 d8
    → TimesA e7 e8' → TimesA e8' e8 → Summed t.d t.e six → Summed d7 e7 seven → Summed d8 e8 eight
    → Highs t (record { low = t.v; six = six; seven = seven; eight = eight })
unfolding Highs TimesA Summed row_at rest_at lane_bit bit_of
highs_law t d7 e7' e7 d8 e8' e8 six seven eight hd7 he7' he7 hd8 he8' he8 h6 h7 h8 w l hw =
    rw (row_at, lowest w, h6 l, h7 l, h8 l, hd8 l, he8 l, he8' l, hd7 l, he7 l, he7' l)
    (sym (value_row (lane_of t.v l) (lane_of t.d l) (lane_of t.e l) w hw))

-- ---- the whole

pub start_law : (c d e : ℕ) (t : Trio) → Throughout c t.v → Throughout d t.d → Throughout e t.e → Begun c d e t
unfolding Begun rest_at Throughout
start_law c d e t hc hd he l x h = rw (hc l h, hd l h, he l h)

pub quadratic_law : (c d e : ℕ) (t u : Trio) (r : Affine) → Begun c d e t → LowsTaken t u → Highs u r → Quadratic c d e r
unfolding Begun LowsTaken Highs Quadratic
quadratic_law c d e t u r b h k w l hw hl = k w l hw ∙ h w l hw hl ∙ b l _ hl
