-- One bit flipped: in the digits of a number, and in the bits of machine words.
-- Assumes nothing.
use mathlib.Core.Path.{◌≡◌, refl, sym, ap, ap₂, ◌∙◌}
use mathlib.Core.List.{List, [], ◌∷◌, ◌++◌}
use Prim.Native.Nat.{ℕ, zero, suc, ◌+◌, ◌-◌, ◌/◌, ◌%◌, ◌^◌, ◌≤◌, ◌<◌}
use native.Mathlib.Omega.{arith}
use native.Mathlib.Nat.{div-eq_of_lt, le_refl, mod_self, one-mul}
use lib.Bits.{bit_xor, xor_mod, xor_zero_r}
use lib.ListN.{length, get_or, set}
use lib.Pow.{pow-add, pow-lt, shl-shr}
use lib.Seq.{set_out, set-append_left}
use Rattle.ground.proofs.Xors.{by_digit}
use Rattle.bits.specs.Words.{digits}
use Rattle.bits.proofs.Digits.{length_digits, digit_xor}
use Rattle.packed.specs.Packed.{bits_from, bits512}
use Rattle.bits.proofs.Shifts.{digits-mod-pow}
use Rattle.packed.proofs.Walks.{length_512, around, around_set, place, digit_at}

-- ---- a digit of a number

digit_flipped : (n : ℕ) → bit_xor (n % 2) 1 ≡ 1 - n % 2
digit_flipped = by_digit (λ (b : ℕ). bit_xor b 1 ≡ 1 - b) refl refl

pub digits_flipped : (r q x : ℕ) → q < r → digits r (bit_xor x (2 ^ (r - suc q))) ≡ set (digits r x) q (1 - get_or (digits r x) q 0)
unfolding digits
digits_flipped zero q x h = absurd (omega arith)
digits_flipped (suc r) zero x h =
    let e : suc r - 1 ≡ r = omega arith in
    let one : 2 ^ r / 2 ^ r ≡ 1 = ap (λ (n : ℕ). n / 2 ^ r) (sym (one-mul (2 ^ r))) ∙ shl-shr 1 r in
    let none : 2 ^ r % 2 ^ r ≡ 0 = mod_self (2 ^ r) in
    let top : bit_xor x (2 ^ r) / 2 ^ r % 2 ≡ 1 - x / 2 ^ r % 2
    = digit_xor r x (2 ^ r) ∙ ap (λ (n : ℕ). bit_xor (x / 2 ^ r % 2) (n % 2)) one ∙ digit_flipped (x / 2 ^ r) in
    let rest : bit_xor x (2 ^ r) % 2 ^ r ≡ x % 2 ^ r = xor_mod x (2 ^ r) r ∙ ap (bit_xor (x % 2 ^ r)) none ∙ xor_zero_r (x % 2 ^ r) in
    ap (λ (n : ℕ). digits (suc r) (bit_xor x (2 ^ n))) e
    ∙ ap₂ ◌∷◌ top (sym (digits-mod-pow r r (bit_xor x (2 ^ r)) (le_refl r)) ∙ ap (digits r) rest ∙ digits-mod-pow r r x (le_refl r))
digits_flipped (suc r) (suc q) x h =
    let e : suc r - suc (suc q) ≡ r - suc q = omega arith in
    let none : 2 ^ (r - suc q) / 2 ^ r ≡ 0 = div-eq_of_lt (pow-lt (omega arith)) in
    let top : bit_xor x (2 ^ (r - suc q)) / 2 ^ r % 2 ≡ x / 2 ^ r % 2
    = digit_xor r x (2 ^ (r - suc q)) ∙ ap (λ (n : ℕ). bit_xor (x / 2 ^ r % 2) (n % 2)) none ∙ xor_zero_r (x / 2 ^ r % 2) in
    ap (λ (n : ℕ). digits (suc r) (bit_xor x (2 ^ n))) e ∙ ap₂ ◌∷◌ top (digits_flipped r q x (omega arith))

-- ---- a bit of machine words

set-append-add : (xs ys : List ℕ) (n a : ℕ) → set (xs ++ ys) (length xs + n) a ≡ xs ++ set ys n a
set-append-add [] ys n a = let e : 0 + n ≡ n = omega arith in ap (λ (m : ℕ). set ys m a) e
set-append-add (x ∷ xs) ys n a =
    let e : length (x ∷ xs) + n ≡ suc (length xs + n) = omega arith in
    ap (λ (m : ℕ). set (x ∷ (xs ++ ys)) m a) e ∙ ap (λ (l : List ℕ). x ∷ l) (set-append-add xs ys n a)

-- the highest digit moved down
moved : (q : ℕ) → q < 64 → 0x8000000000000000 / 2 ^ q ≡ 2 ^ (64 - suc q)
moved q h =
    let e : 63 ≡ 64 - suc q + q = omega arith in
    ap (λ (n : ℕ). 2 ^ n / 2 ^ q) e ∙ ap (λ (n : ℕ). n / 2 ^ q) (pow-add 2 (64 - suc q) q) ∙ shl-shr (2 ^ (64 - suc q)) q

pub flipped_at : (ws : List ℕ) (p : ℕ) → length ws ≡ 8 → p < 512
    → bits512 (set ws (p / 64) (bit_xor (get_or ws (p / 64) 0) (0x8000000000000000 / 2 ^ (p % 64))))
    ≡ set (bits512 ws) p (1 - get_or (bits512 ws) p 0)
flipped_at ws p long h =
    let a = p / 64 in
    let q = p % 64 in
    let x = get_or ws a 0 in
    let y = 1 - get_or (bits512 ws) p 0 in
    let front = bits_from a 0 ws in
    let back = bits_from (7 - a) (suc a) ws in
    let ha : a < 8 = omega arith in
    let hq : q < 64 = omega arith in
    let turned : digits 64 (bit_xor x (0x8000000000000000 / 2 ^ q)) ≡ set (digits 64 x) q y
    = ap (λ (n : ℕ). digits 64 (bit_xor x n)) (moved q hq) ∙ digits_flipped 64 q x hq ∙ ap (λ (b : ℕ). set (digits 64 x) q (1 - b)) (sym (digit_at ws p h)) in
    around_set ws a (bit_xor x (0x8000000000000000 / 2 ^ q)) long ha
    ∙ ap (λ (l : List ℕ). front ++ (l ++ back)) turned
    ∙ ap (λ (l : List ℕ). front ++ l) (sym (set-append_left (digits 64 x) back q y (omega (arith, length_digits 64 x))))
    ∙ sym (ap₂ (λ (l : List ℕ) (n : ℕ). set l n y) (around ws a ha) (place ws p) ∙ set-append-add front (digits 64 x ++ back) q y)

-- no such place
pub flipped_none : (ws : List ℕ) (p : ℕ) → 512 ≤ p → bits512 ws ≡ set (bits512 ws) p (1 - get_or (bits512 ws) p 0)
flipped_none ws p h = sym (set_out (bits512 ws) p (1 - get_or (bits512 ws) p 0) (omega (arith, length_512 ws)))
