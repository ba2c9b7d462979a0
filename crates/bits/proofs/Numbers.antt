-- Numbers and their binary digits: one digit more at the end, numbers with the same digits, and the number that bits are the digits of.
-- Assumes nothing.
use mathlib.Core.Path.{◌≡◌, refl, sym, ap, ap₂, ◌∙◌}
use mathlib.Core.List.{List, [], ◌∷◌, ◌++◌, append-nil, append_assoc}
use Prim.Native.Nat.{ℕ, zero, suc, ◌+◌, ◌*◌, ◌/◌, ◌%◌, ◌^◌, ◌≤◌, ◌<◌}
use native.Mathlib.Nat.{add-zero, mod-one, mod-eq_of_lt}
use native.Mathlib.Numerals.{one-add}
use native.Mathlib.Omega.{arith}
use lib.ListN.{length}
use lib.Pow.{mod-pow-add, pow_mono}
use Rattle.bits.specs.Words.{Bits, digits}
use Rattle.bits.proofs.Digits.{digits_last}
use Rattle.bits.specs.Bytes.{number_from, as_number}

digits_snoc : (r x b : ℕ) → b < 2 → digits (suc r) (x * 2 + b) ≡ digits r x ++ (b ∷ [])
digits_snoc r x b h =
    let d : (x * 2 + b) / 2 ≡ x = omega arith in
    let m : (x * 2 + b) % 2 ≡ b = omega arith in
    digits_last r (x * 2 + b) ∙ ap₂ (λ (y c : ℕ). digits r y ++ (c ∷ [])) d m

pub digits_same : (r x y : ℕ) → digits r x ≡ digits r y → x % 2 ^ r ≡ y % 2 ^ r
unfolding digits
digits_same zero x y e = mod-one x ∙ sym (mod-one y)
digits_same (suc r) x y e =
    let top : x / 2 ^ r % 2 ≡ y / 2 ^ r % 2 = cc in
    let low : digits r x ≡ digits r y = cc in
    (rw one-add at (mod-pow-add x 1 r)) ∙ ap₂ (λ (t m : ℕ). t * 2 ^ r + m) top (digits_same r x y low) ∙ sym (rw one-add at (mod-pow-add y 1 r))

pub digits_inj : (r x y : ℕ) → x < 2 ^ r → y < 2 ^ r → digits r x ≡ digits r y → x ≡ y
digits_inj r x y hx hy e = sym (mod-eq_of_lt hx) ∙ digits_same r x y e ∙ mod-eq_of_lt hy

-- ---- the number that bits are the digits of

from_snoc : (x : ℕ) (bits : List ℕ) (b : ℕ) → number_from x (bits ++ (b ∷ [])) ≡ 2 * number_from x bits + b % 2
unfolding number_from
from_snoc x [] b = refl
from_snoc x (c ∷ bits) b = from_snoc (2 * x + c % 2) bits b

-- one bit more
pub number_snoc : (bits : List ℕ) (b : ℕ) → as_number (bits ++ (b ∷ [])) ≡ 2 * as_number bits + b % 2
number_snoc bits b = from_snoc 0 bits b

pub number_nil : as_number [] ≡ 0
unfolding number_from
number_nil = refl

from_lt : (k x : ℕ) (bits : List ℕ) → x < 2 ^ k → number_from x bits < 2 ^ (k + length bits)
unfolding number_from
from_lt k x [] l = rw (add-zero k) l
from_lt k x (b ∷ bits) l =
    let e : k + suc (length bits) ≡ suc k + length bits = omega arith in
    let more : 2 * x + b % 2 < 2 ^ suc k = omega arith in
    rw e (from_lt (suc k) (2 * x + b % 2) bits more)

from_digits : (k x : ℕ) (bits : List ℕ) → Bits bits → digits (k + length bits) (number_from x bits) ≡ digits k x ++ bits
unfolding number_from
from_digits k x [] h = ap (λ (n : ℕ). digits n x) (add-zero k) ∙ sym (append-nil (digits k x))
from_digits k x (b ∷ bits) h =
    let e : k + suc (length bits) ≡ suc k + length bits = omega arith in
    let twice : 2 * x + b % 2 ≡ x * 2 + b = omega (arith, h.0) in
    ap (λ (n : ℕ). digits n (number_from (2 * x + b % 2) bits)) e ∙ from_digits (suc k) (2 * x + b % 2) bits h.1
    ∙ ap (λ (l : List ℕ). l ++ bits) (ap (digits (suc k)) twice ∙ digits_snoc k x b h.0) ∙ append_assoc (digits k x) (b ∷ []) bits

-- bits are the digits of their as_number
pub digits_number : (bits : List ℕ) → Bits bits → digits (length bits) (as_number bits) ≡ bits
unfolding digits
digits_number bits h =
    let none : 0 + length bits ≡ length bits = omega arith in
    ap (λ (n : ℕ). digits n (as_number bits)) (sym none) ∙ from_digits 0 0 bits h

-- the as_number of n bits, or of less, is below 2^n
pub number_low : (n : ℕ) (bits : List ℕ) → length bits ≤ n → as_number bits < 2 ^ n
number_low n bits l =
    let p : 2 ^ (0 + length bits) ≤ 2 ^ n = pow_mono (omega arith) in
    omega (arith, from_lt 0 0 bits (omega arith))

-- that of 32, or of less, fits in 32 bits
pub number_fits : (bits : List ℕ) → length bits ≤ 32 → as_number bits % 2 ^ 32 ≡ as_number bits
number_fits bits l = mod-eq_of_lt (number_low 32 bits l)

-- bits are the digits of what is read as their as_number
pub number_read : (bits : List ℕ) (x : ℕ) → Bits bits → length bits ≤ 32 → x ≡ as_number bits % 2 ^ 32 → (digits (length bits) x ≡ bits) × (x < 2 ^ length bits)
number_read bits x h l e =
    let same : x ≡ as_number bits = e ∙ number_fits bits l in
    (ap (digits (length bits)) same ∙ digits_number bits h, omega (arith, same, number_low (length bits) bits (omega arith)))
