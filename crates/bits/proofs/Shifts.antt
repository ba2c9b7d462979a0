-- The digits of a number, of its low end and of a number shifted, and one run of digits behind another.
-- Assumes nothing.
use mathlib.Core.Path.{◌≡◌, refl, sym, ap, ap₂, ◌∙◌}
use mathlib.Core.List.{List, ◌∷◌, ◌++◌}
use Prim.Native.Nat.{ℕ, zero, suc, ◌+◌, ◌-◌, ◌*◌, ◌/◌, ◌%◌, ◌^◌, ◌≤◌, ◌<◌}
use native.Mathlib.Omega.{arith}
use native.Mathlib.Nat.{mul-mod_left, add-zero, zero-add, zero-div, add_comm, suc-add, le_refl}
use lib.Bits.{bit_or, or_shifted}
use lib.ListN.{get_or, replicate}
use lib.Pow.{pow_pos, shl-shr, shr-shr, high, low, field, mod-pow-add, mod-mod-pow}
use Rattle.bits.specs.Words.{digits}

-- the digit at a place
pub digits_at : (r p x : ℕ) → p < r → get_or (digits r x) p 0 ≡ x / 2 ^ (r - suc p) % 2
unfolding digits
digits_at zero p x h = absurd (omega arith)
digits_at (suc r) zero x h = let e : r ≡ suc r - 1 = omega arith in ap (λ (n : ℕ). x / 2 ^ n % 2) e
digits_at (suc r) (suc p) x h =
    let e : r - suc p ≡ suc r - suc (suc p) = omega arith in
    digits_at r p x (omega arith) ∙ ap (λ (n : ℕ). x / 2 ^ n % 2) e

pub digits-zero : (r : ℕ) → digits r 0 ≡ replicate r 0
unfolding digits
digits-zero zero = refl
digits-zero (suc r) = ap₂ ◌∷◌ (ap (λ (n : ℕ). n % 2) (zero-div (2 ^ r))) (digits-zero r)

digit_mod : (m e x : ℕ) → m < e → x % 2 ^ e / 2 ^ m % 2 ≡ x / 2 ^ m % 2
digit_mod m e x h =
    let s : e - suc m + 1 + m ≡ e = omega arith in
    ap (λ (n : ℕ). x % 2 ^ n / 2 ^ m % 2) (sym s) ∙ ap (λ (n : ℕ). n % 2) (field x (e - suc m + 1) m) ∙ mod-mod-pow (x / 2 ^ m) (e - suc m) 1

-- digits above the m lowest are not read
pub digits-mod-pow : (m e x : ℕ) → m ≤ e → digits m (x % 2 ^ e) ≡ digits m x
unfolding digits
digits-mod-pow zero e x h = refl
digits-mod-pow (suc m) e x h = ap₂ ◌∷◌ (digit_mod m e x h) (digits-mod-pow m e x (omega arith))

-- m digits, then k
pub digits_append : (m k x : ℕ) → digits (m + k) x ≡ digits m (x / 2 ^ k) ++ digits k x
unfolding digits
digits_append zero k x = ap (λ (n : ℕ). digits n x) (zero-add k)
digits_append (suc m) k x =
    ap (λ (n : ℕ). digits n x) (suc-add m k)
    ∙ ap₂ ◌∷◌ (ap (λ (n : ℕ). n % 2) (ap (λ (n : ℕ). x / 2 ^ n) (add_comm m k) ∙ sym (shr-shr x k m))) (digits_append m k x)

-- the digits of a, then those of b
digits_joined : (m k a b : ℕ) → b < 2 ^ k → digits (m + k) (a * 2 ^ k + b) ≡ digits m a ++ digits k b
digits_joined m k a b h =
    digits_append m k (a * 2 ^ k + b)
    ∙ ap₂ (λ (x : ℕ) (v : List ℕ). digits m x ++ v) (high a k h)
    (sym (digits-mod-pow k k (a * 2 ^ k + b) (le_refl k)) ∙ ap (digits k) (low a k h))

-- a << k in j + k digits
pub shl_mod : (a j k : ℕ) → a * 2 ^ k % 2 ^ (j + k) ≡ a % 2 ^ j * 2 ^ k
shl_mod a j k =
    mod-pow-add (a * 2 ^ k) j k
    ∙ ap₂ (λ (x y : ℕ). x % 2 ^ j * 2 ^ k + y) (shl-shr a k) (mul-mod_left a (2 ^ k))
    ∙ add-zero (a % 2 ^ j * 2 ^ k)

-- (a << k) | b holds the digits of a and then those of b
pub digits-or : (m k a b : ℕ) → m + k ≤ 64 → b < 2 ^ k → digits (m + k) (bit_or (a * 2 ^ k % 2 ^ 64) b) ≡ digits m a ++ digits k b
digits-or m k a b h l =
    let e : 64 - k + k ≡ 64 = omega arith in
    ap (λ (n : ℕ). digits (m + k) (bit_or (a * 2 ^ k % 2 ^ n) b)) (sym e)
    ∙ ap (λ (x : ℕ). digits (m + k) (bit_or x b)) (shl_mod a (64 - k) k)
    ∙ ap (digits (m + k)) (or_shifted (a % 2 ^ (64 - k)) k b l)
    ∙ digits_joined m k (a % 2 ^ (64 - k)) b l
    ∙ ap (λ (v : List ℕ). v ++ digits k b) (digits-mod-pow m (64 - k) a (omega arith))

-- a << k holds the digits of a and then zeros
pub digits_shl : (m k a : ℕ) → m + k ≡ 64 → digits 64 (a * 2 ^ k % 2 ^ 64) ≡ digits m a ++ replicate k 0
digits_shl m k a h =
    digits-mod-pow 64 64 (a * 2 ^ k) (le_refl 64) ∙ ap₂ digits (sym h) (sym (add-zero (a * 2 ^ k))) ∙ digits_joined m k a 0 (pow_pos k)
    ∙ ap (λ (v : List ℕ). digits m a ++ v) (digits-zero k)
