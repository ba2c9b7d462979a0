-- `bit_xor`, the sum of binary digits without carries: it is associative and commutative, everything is its own opposite, and it goes digit by digit.
-- Assumes nothing.
use mathlib.Core.Path.{◌≡◌, refl, sym, ap, ap₂, ◌∙◌}
use Prim.Native.Nat.{ℕ, zero, suc, ◌+◌, ◌*◌, ◌/◌, ◌%◌, ◌<◌}
use native.Mathlib.Nat.{mod-lt, zero-lt-suc, le_of_suc-le-suc, not-suc-le-zero, add-zero, zero-mul, one-mul, div-add-mod'}
use lib.Arith.{bin_ind}
use lib.Bits.{bit_xor, differ, xor_step, xor_comm, xor_self, xor_zero_l, xor_zero_r, xor_shr, xor_mod, xor_block, xor_shifted}

-- a digit is 0 or 1
pub by_digit : (P : ℕ → Type 0) → P 0 → P 1 → (n : ℕ) → P (n % 2)
by_digit P p q n = go (n % 2) (mod-lt n (zero-lt-suc 1))
  where
    go : (m : ℕ) → m < 2 → P m
    go zero h = p
    go (suc zero) h = q
    go (suc (suc m)) h = absurd (not-suc-le-zero (le_of_suc-le-suc (le_of_suc-le-suc h)))

-- a digit times a number is additive, in the digit and in the number
pub digit_left : (a b c : ℕ) → bit_xor (a % 2) (b % 2) * c ≡ bit_xor (a % 2 * c) (b % 2 * c)
digit_left a b c =
    by_digit (λ (x : ℕ). bit_xor x (b % 2) * c ≡ bit_xor (x * c) (b % 2 * c)) (sym (ap (λ (x : ℕ). bit_xor x (b % 2 * c)) (zero-mul c)))
    (by_digit (λ (y : ℕ). bit_xor 1 y * c ≡ bit_xor (1 * c) (y * c))
    (sym (ap (bit_xor (1 * c)) (zero-mul c) ∙ xor_zero_r (1 * c))) (zero-mul c ∙ sym (xor_self (1 * c))) b)
    a

pub digit_right : (a b c : ℕ) → a % 2 * bit_xor b c ≡ bit_xor (a % 2 * b) (a % 2 * c)
digit_right a b c =
    by_digit (λ (x : ℕ). x * bit_xor b c ≡ bit_xor (x * b) (x * c)) (zero-mul (bit_xor b c) ∙ sym (ap₂ bit_xor (zero-mul b) (zero-mul c)))
    (one-mul (bit_xor b c) ∙ sym (ap₂ bit_xor (one-mul b) (one-mul c))) a

digit_assoc : (a b c : ℕ) → differ (bit_xor (a % 2) (b % 2)) (c % 2) ≡ differ (a % 2) (bit_xor (b % 2) (c % 2))
digit_assoc a b c =
    by_digit (λ (x : ℕ). differ (bit_xor x (b % 2)) (c % 2) ≡ differ x (bit_xor (b % 2) (c % 2)))
    (by_digit (λ (y : ℕ). differ y (c % 2) ≡ bit_xor y (c % 2)) refl (by_digit (λ (z : ℕ). differ 1 z ≡ bit_xor 1 z) refl refl c) b)
    (by_digit (λ (y : ℕ). differ (bit_xor 1 y) (c % 2) ≡ differ 1 (bit_xor y (c % 2))) refl
    (by_digit (λ (z : ℕ). z ≡ differ 1 (bit_xor 1 z)) refl refl c) b)
    a

pub xor_assoc : (a b c : ℕ) → bit_xor (bit_xor a b) c ≡ bit_xor a (bit_xor b c)
xor_assoc =
    bin_ind (λ (a : ℕ). (b c : ℕ) → bit_xor (bit_xor a b) c ≡ bit_xor a (bit_xor b c)) (λ b c. refl)
    (λ a ih b c.
    xor_step (bit_xor a b) c
    ∙ ap₂ (λ (x y : ℕ). bit_xor x (c / 2) * 2 + differ y (c % 2)) (xor_shr a b 1) (xor_mod a b 1)
    ∙ ap₂ (λ (x y : ℕ). x * 2 + y) (ih (b / 2) (c / 2)) (digit_assoc a b c)
    ∙ sym (xor_step a (bit_xor b c)
    ∙ ap₂ (λ (x y : ℕ). bit_xor (a / 2) x * 2 + differ (a % 2) y) (xor_shr b c 1) (xor_mod b c 1)))

pub xor_left_comm : (a b c : ℕ) → bit_xor a (bit_xor b c) ≡ bit_xor b (bit_xor a c)
xor_left_comm a b c = sym (xor_assoc a b c) ∙ ap (λ (x : ℕ). bit_xor x c) (xor_comm a b) ∙ xor_assoc b a c

-- what is added twice is not there
pub xor_cancel : (a b : ℕ) → bit_xor a (bit_xor a b) ≡ b
xor_cancel a b = sym (xor_assoc a a b) ∙ ap (λ (x : ℕ). bit_xor x b) (xor_self a)

-- sorts a sum without carries and strikes out what stands there twice
pub ruleset xors = (xor_assoc, xor_comm, xor_left_comm, xor_self, xor_cancel, xor_zero_l, xor_zero_r)

pub xor_medial : (a b c d : ℕ) → bit_xor (bit_xor a b) (bit_xor c d) ≡ bit_xor (bit_xor a c) (bit_xor b d)
xor_medial a b c d = simp xors

pub xor_double : (a b : ℕ) → bit_xor a b * 2 ≡ bit_xor (a * 2) (b * 2)
xor_double a b =
    sym (add-zero (bit_xor a b * 2)) ∙ sym (xor_block 1 a b 0 0 (zero-lt-suc 1) (zero-lt-suc 1))
    ∙ ap₂ bit_xor (add-zero (a * 2)) (add-zero (b * 2))

-- a number is its last digit and the others
pub xor_split : (a : ℕ) → bit_xor (a / 2 * 2) (a % 2) ≡ a
xor_split a = xor_shifted (a / 2) 1 (a % 2) (mod-lt a (zero-lt-suc 1)) ∙ div-add-mod' a 2
