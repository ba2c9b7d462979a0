-- Bits at the top of 192 digits: read off, put there, and as the digits of a number.
-- Assumes nothing.
use mathlib.Core.Path.{◌≡◌, refl, sym, ap, ap₂, ◌∙◌}
use mathlib.Core.List.{List, [], ◌∷◌, ◌++◌, append-nil, zip_with}
use Prim.Native.Nat.{ℕ, zero, suc, ◌+◌, ◌-◌, ◌*◌, ◌/◌, ◌%◌, ◌^◌, ◌≤◌, ◌<◌}
use native.Mathlib.Omega.{arith}
use native.Mathlib.Nat.{le_refl, mod-lt, mod-eq_of_lt, pow-suc, suc-add, mul_assoc, add-zero, zero-mul, zero-mod, zero-div, mod-one, mul-add-mod_self_right}
use native.Mathlib.Numerals.{add-one, one-add}
use lib.Arith.{digits_lt, digits_mod}
use lib.Bits.{bit_xor, block_half, xor_shr, xor_mod}
use lib.Dec.{lit<}
use lib.ListN.{length}
use lib.Pow.{pow_pos, pow-add, shl-shr, shr-shr, shr_lt, high, field, mod-pow-add}
use Rattle.ground.proofs.Xors.{xor_double}
use Rattle.bits.specs.Words.{Bits, digits}
use Rattle.bch.specs.Registers.{tops, at_top}
use Rattle.bits.proofs.Remainders.{halved}
use Rattle.bits.proofs.Shifts.{digits-mod-pow}
use Rattle.bits.proofs.Falling.{mod_times}

-- ---- the top of a register

pub tops_bits : (m x : ℕ) → Bits (tops m x)
unfolding tops
tops_bits zero x = tt
tops_bits (suc m) x = (mod-lt _ (lit< tt), tops_bits m _)

-- some, and those that stand at the top once they have fallen out
pub tops_more : (m d y : ℕ) → tops (suc m + d) y ≡ tops (suc m) y ++ tops d (y * 2 ^ suc m % 2 ^ 192)
unfolding tops
tops_more zero d y = ap (λ (n : ℕ). tops n y) (one-add d)
tops_more (suc m) d y =
    let z = y * 2 % 2 ^ 192 in
    let e : z * 2 ^ suc m % 2 ^ 192 ≡ y * 2 ^ suc (suc m) % 2 ^ 192
    = mod_times (y * 2) (2 ^ suc m) (2 ^ 192) ∙ ap (λ (n : ℕ). n % 2 ^ 192) (rw (pow-suc 2 (suc m)) (omega arith)) in
    ap (λ (n : ℕ). tops n y) (suc-add (suc m) d)
    ∙ ap (λ (v : List ℕ). y / 2 ^ 191 % 2 ∷ v) (tops_more m d z ∙ ap (λ (n : ℕ). tops (suc m) z ++ tops d n) e)

pub tops_shifted : (m k x : ℕ) → m + k ≡ 192 → tops m x ≡ digits m (x / 2 ^ k)
unfolding tops digits
tops_shifted zero k x h = refl
tops_shifted (suc m) k x h =
    ap₂ ◌∷◌ head
    (tops_shifted m (suc k) (x * 2 % 2 ^ 192) (omega arith) ∙ ap (digits m) tail ∙ digits-mod-pow m m (x / 2 ^ k) (le_refl m))
  where
    head : x / 2 ^ 191 % 2 ≡ x / 2 ^ k / 2 ^ m % 2
    head =
        let s : 191 ≡ k + m = omega arith in
        ap (λ (n : ℕ). x / 2 ^ n % 2) s ∙ ap (λ (n : ℕ). n % 2) (sym (shr-shr x k m))

    tail : x * 2 % 2 ^ 192 / 2 ^ suc k ≡ x / 2 ^ k % 2 ^ m
    tail =
        let s : 192 ≡ m + suc k = omega arith in
        ap (λ (n : ℕ). x * 2 % 2 ^ n / 2 ^ suc k) s ∙ field (x * 2) m (suc k) ∙ ap (λ (n : ℕ). n % 2 ^ m) (halved k x)

pub digits-tops : (r x : ℕ) → r ≤ 192 → digits r x ≡ tops r (x * 2 ^ (192 - r))
digits-tops r x h = sym (tops_shifted r (192 - r) (x * 2 ^ (192 - r)) (omega arith) ∙ ap (digits r) (shl-shr x (192 - r)))

pub tops-xor : (m x y : ℕ) → tops m (bit_xor x y) ≡ zip_with bit_xor (tops m x) (tops m y)
unfolding tops zip_with
tops-xor zero x y = refl
tops-xor (suc m) x y =
    ap₂ ◌∷◌ (ap (λ (n : ℕ). n % 2) (xor_shr x y 191) ∙ xor_mod (x / 2 ^ 191) (y / 2 ^ 191) 1)
    (ap (λ (n : ℕ). tops m (n % 2 ^ 192)) (xor_double x y) ∙ ap (tops m) (xor_mod (x * 2) (y * 2) 192)
    ∙ tops-xor m (x * 2 % 2 ^ 192) (y * 2 % 2 ^ 192))

-- ---- bits at the top of a register

at_top-lt : (bs : List ℕ) → Bits bs → at_top bs < 2 ^ 192
unfolding at_top
at_top-lt [] bits = pow_pos 192
at_top-lt (b ∷ bs) bits = digits_lt bits.0 (shr_lt 191 1 (at_top-lt bs bits.1))

shifted_digits : (r k x : ℕ) (bs : List ℕ) → r + k ≡ 192 → at_top (digits r x ++ bs) ≡ x % 2 ^ r * 2 ^ k + at_top bs / 2 ^ r
unfolding at_top digits
shifted_digits zero k x bs h = rw (mod-one x, zero-mul (2 ^ k)) (omega arith)
shifted_digits (suc r) k x bs h =
    let d = x / 2 ^ r % 2 in
    let s : 191 ≡ r + k = omega arith in
    let p : d * 2 ^ 191 ≡ d * (2 ^ r * 2 ^ k) = ap (λ (n : ℕ). d * 2 ^ n) s ∙ ap (λ (n : ℕ). d * n) (pow-add 2 r k) in
    ap₂ ◌+◌ p (ap (λ (n : ℕ). n / 2) (shifted_digits r (suc k) x bs (omega arith)) ∙ block_half (x % 2 ^ r) k (at_top bs / 2 ^ r))
    ∙ omega (arith, ap (λ (n : ℕ). n * 2 ^ k) (rw one-add at (mod-pow-add x 1 r)), rw add-one at (shr-shr (at_top bs) r 1))

-- digits before bits
at_top_before : (r x : ℕ) (bs : List ℕ) → r ≤ 192 → x < 2 ^ r → at_top (digits r x ++ bs) ≡ x * 2 ^ (192 - r) + at_top bs / 2 ^ r
at_top_before r x bs h l = shifted_digits r (192 - r) x bs (omega arith) ∙ ap (λ (n : ℕ). n * 2 ^ (192 - r) + at_top bs / 2 ^ r) (mod-eq_of_lt l)

pub at_top-digits : (r x : ℕ) → r ≤ 192 → x < 2 ^ r → at_top (digits r x) ≡ x * 2 ^ (192 - r)
unfolding at_top
at_top-digits r x h l =
    ap at_top (sym (append-nil (digits r x))) ∙ at_top_before r x [] h l ∙ ap (λ (n : ℕ). x * 2 ^ (192 - r) + n) (zero-div (2 ^ r)) ∙ add-zero _

-- what stands at the top has zeros below
at_top_below : (bs : List ℕ) (k : ℕ) → length bs + k ≤ 192 → at_top bs % 2 ^ k ≡ 0
unfolding at_top
at_top_below [] k h = zero-mod (2 ^ k)
at_top_below (b ∷ bs) k h =
    let s : 191 ≡ 191 - k + k = omega arith in
    let p : b * 2 ^ 191 ≡ b * 2 ^ (191 - k) * 2 ^ k
    = ap (λ (n : ℕ). b * 2 ^ n) s ∙ ap (λ (n : ℕ). b * n) (pow-add 2 (191 - k) k) ∙ sym (mul_assoc b (2 ^ (191 - k)) (2 ^ k)) in
    rw (p, mul-add-mod_self_right (b * 2 ^ (191 - k)) (2 ^ k) (at_top bs / 2), ← (field (at_top bs) k 1), at_top_below bs (k + 1) (omega arith))

unpacked : (K b p : ℕ) → p < K * 2 → p % 2 ≡ 0 → (b * K + p / 2) * 2 % (K * 2) ≡ p
unpacked K b p l e = let s : (b * K + p / 2) * 2 ≡ b * (K * 2) + p = omega arith in rw s (digits_mod b l)

pub tops-at_top : (bs : List ℕ) → Bits bs → length bs ≤ 192 → tops (length bs) (at_top bs) ≡ bs
unfolding tops at_top
tops-at_top [] bits h = refl
tops-at_top (b ∷ bs) bits h =
    ap₂ ◌∷◌ (ap (λ (n : ℕ). n % 2) (high b 191 (shr_lt 191 1 (at_top-lt bs bits.1))) ∙ mod-eq_of_lt bits.0)
    (ap (tops (length bs)) (unpacked (2 ^ 191) b (at_top bs) (at_top-lt bs bits.1) (at_top_below bs 1 (omega arith)))
    ∙ tops-at_top bs bits.1 (omega arith))
