-- The indices of the 1s in a list of bits: of lists one behind the other, and of a number's digits, the highest first.
-- Assumes nothing.
use mathlib.Core.Path.{◌≡◌, refl, sym, ap, ap₂, ◌∙◌}
use mathlib.Core.Bool.{Bool, true, false, cond}
use mathlib.Core.List.{List, [], ◌∷◌, ◌++◌, append_assoc}
use Prim.Native.Nat.{ℕ, zero, suc, ◌+◌, ◌-◌, ◌*◌, ◌/◌, ◌%◌, ◌^◌, ◌≤◌, ◌<◌}
use native.Mathlib.Nat.{add-zero, zero-mul, zero-add, div-eq_of_lt, le_refl}
use native.Mathlib.Omega.{arith}
use lib.Bits.{bit_xor, xor_block, xor_zero_r}
use lib.Count.{count_leading_zeros, leading_top}
use lib.Dec.{eqb}
use lib.ListN.{length, replicate, length-replicate}
use lib.Pow.{pow_pos, pow-add, high, low, shl-shr}
use Rattle.bits.specs.Words.{digits}
use Rattle.bits.proofs.Shifts.{digits-zero, digits_append, digits-mod-pow}
use Rattle.decoder.specs.Marks.{ones_from}

-- ---- lists

pub ones_append : (i : ℕ) (v w : List ℕ) → ones_from i (v ++ w) ≡ ones_from i v ++ ones_from (i + length v) w
unfolding ones_from
ones_append i [] w = ap (λ (n : ℕ). ones_from n w) (sym (add-zero i))
ones_append i (b ∷ v) w =
    let e : suc i + length v ≡ i + suc (length v) = omega arith in
    ap (λ (l : List ℕ). cond (eqb b 0) [] (i ∷ []) ++ l) (ones_append (suc i) v w ∙ ap (λ (n : ℕ). ones_from (suc i) v ++ ones_from n w) e)
    ∙ sym (append_assoc (cond (eqb b 0) [] (i ∷ [])) (ones_from (suc i) v) (ones_from (i + suc (length v)) w))

pub ones_zeros : (i k : ℕ) → ones_from i (replicate k 0) ≡ []
unfolding ones_from
ones_zeros i zero = refl
ones_zeros i (suc k) = ones_zeros (suc i) k

pub ones_le : (i : ℕ) (l : List ℕ) → length (ones_from i l) ≤ length l
unfolding ones_from
ones_le i [] = le_refl 0
ones_le i (b ∷ l) = by (eqb b 0) (ones_from (suc i) l) (ones_le (suc i) l)
  where
    by : (test : Bool) (rest : List ℕ) → length rest ≤ length l → length (cond test [] (i ∷ []) ++ rest) ≤ suc (length l)
    by true rest h = omega arith
    by false rest h = omega arith

-- ---- the digits of a number

-- a number of j digits has zeros above
ones_below : (i z j a : ℕ) → a < 2 ^ j → ones_from i (digits (z + j) a) ≡ ones_from (i + z) (digits j a)
ones_below i z j a h =
    let none : digits z (a / 2 ^ j) ≡ replicate z 0 = ap (digits z) (div-eq_of_lt h) ∙ digits-zero z in
    ap (ones_from i) (digits_append z j a ∙ ap (λ (l : List ℕ). l ++ digits j a) none)
    ∙ ones_append i (replicate z 0) (digits j a)
    ∙ ap₂ (λ (l : List ℕ) (n : ℕ). l ++ ones_from (i + n) (digits j a)) (ones_zeros i z) (length-replicate z 0)

-- 2^j and a number r of j digits: the highest 1 and the others
module _ (j r : ℕ) (h : r < 2 ^ j) where
  without : bit_xor (1 * 2 ^ j + r) (2 ^ j) ≡ r
  without =
      let same : 2 ^ j ≡ 1 * 2 ^ j + 0 = omega arith in
      ap (bit_xor (1 * 2 ^ j + r)) same ∙ xor_block j 1 1 r 0 h (pow_pos j) ∙ ap₂ ◌+◌ (zero-mul (2 ^ j)) (xor_zero_r r) ∙ zero-add r

  ones_of_top : (i : ℕ) → ones_from i (digits (suc j) (1 * 2 ^ j + r)) ≡ i ∷ ones_from (suc i) (digits j r)
  unfolding ones_from digits
  ones_of_top i =
      let a = 1 * 2 ^ j + r in
      ap₂ (λ (d : ℕ) (l : List ℕ). ones_from i (d % 2 ∷ l)) (high 1 j h) (sym (digits-mod-pow j j a (le_refl j)) ∙ ap (digits j) (low 1 j h))

  ones_then : (i z : ℕ) → ones_from i (digits (z + suc j) (1 * 2 ^ j + r)) ≡ (i + z) ∷ ones_from i (digits (z + suc j) r)
  ones_then i z =
      let e : z + suc j ≡ suc z + j = omega arith in
      let s : i + suc z ≡ suc (i + z) = omega arith in
      ones_below i z (suc j) (1 * 2 ^ j + r) (omega arith) ∙ ones_of_top (i + z)
      ∙ ap (λ (l : List ℕ). (i + z) ∷ l)
      (sym (ap (λ (n : ℕ). ones_from i (digits n r)) e ∙ ones_below i (suc z) j r h ∙ ap (λ (n : ℕ). ones_from n (digits j r)) s))

-- as the code has it: the highest 1 of 64 digits, found by the zeros above it, and what is left without it
module _ (a : ℕ) (some : 0 < a) (fits : a < 2 ^ 64) where
  abbrev lead : ℕ
  lead = count_leading_zeros 64 a

  abbrev left : ℕ
  left = bit_xor a (0x8000000000000000 / 2 ^ lead)

  -- a is 2^j and what is left
  parts : (j : ℕ) × (lead + suc j ≡ 64) × (left < 2 ^ j) × (a ≡ 1 * 2 ^ j + left)
  parts =
      let t = leading_top 64 a some fits in
      let j = t.0 in
      let r = a - 2 ^ j in
      let e : 63 ≡ j + lead = omega (arith, t.1) in
      let low : r < 2 ^ j = omega (arith, t.3) in
      let sum : a ≡ 1 * 2 ^ j + r = omega (arith, t.2) in
      let moved : 0x8000000000000000 / 2 ^ lead ≡ 2 ^ j
      = ap (λ (n : ℕ). 2 ^ n / 2 ^ lead) e ∙ ap (λ (n : ℕ). n / 2 ^ lead) (pow-add 2 j lead) ∙ shl-shr (2 ^ j) lead in
      let is : left ≡ r = ap₂ bit_xor sum moved ∙ without j r low in
      (j, t.1, rw is low, sum ∙ ap (λ (n : ℕ). 1 * 2 ^ j + n) (sym is))

  pub left_less : left < a
  left_less = let p = parts in omega (arith, p.3, pow_pos p.0)

  pub lead_less : lead < 64
  lead_less = let p = parts in omega (arith, p.1)

  pub ones_first : (i : ℕ) → ones_from i (digits 64 a) ≡ (i + lead) ∷ ones_from i (digits 64 left)
  ones_first i =
      let p = parts in
      ap₂ (λ (n x : ℕ). ones_from i (digits n x)) (sym p.1) p.3 ∙ ones_then p.0 left p.2 i lead
      ∙ ap (λ (n : ℕ). (i + lead) ∷ ones_from i (digits n left)) p.1

pub ones_none : (i : ℕ) → ones_from i (digits 64 0) ≡ []
ones_none i = ap (ones_from i) (digits-zero 64) ∙ ones_zeros i 64
