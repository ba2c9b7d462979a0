-- Elements side by side in a number: all their digits, their lowest digits alone, and these brought together.
-- Assumes nothing.
use mathlib.Core.Path.{◌≡◌, refl, sym, ap, ap₂, ◌∙◌}
use mathlib.Core.List.{List, [], ◌∷◌, ◌++◌, append-nil, append_assoc}
use Prim.Native.Nat.{ℕ, suc, ◌+◌, ◌*◌, ◌/◌, ◌%◌, ◌^◌, ◌<◌}
use native.Mathlib.Omega.{arith}
use native.Mathlib.Nat.{le_refl}
use lib.Bits.{bit_and, and_block, and_mask}
use lib.Dec.{lit<}
use lib.ListN.{length, get_or, replicate}
use lib.Pow.{high, low}
use Rattle.ground.proofs.Tests.{all_equal}
use Rattle.std.specs.Int.{from_be_bytes, from_le_bytes, w64}
use Rattle.bits.specs.Words.{digits, lowest}
use Rattle.bits.specs.Bytes.{Bytes, bits_of, as_number}
use Rattle.bits.proofs.Digits.{length-lowest, lowest_at, lowest_bits}
use Rattle.bits.proofs.Numbers.{digits_number, number_low}
use Rattle.bits.proofs.Shifts.{digits-mod-pow, digits_append}
use Rattle.bits.specs.Sides.{beside_from, beside}

-- ---- what std reads of eight bytes, the first highest

pub be_bytes_beside : (xs : List ℕ) → length xs ≡ 8 → from_be_bytes w64 xs ≡ beside xs
unfolding beside_from
be_bytes_beside (a ∷ b ∷ c ∷ d ∷ e ∷ f ∷ g ∷ h ∷ []) long = omega arith
be_bytes_beside [] long = absurd (omega arith)
be_bytes_beside (a ∷ []) long = absurd (omega arith)
be_bytes_beside (a ∷ b ∷ []) long = absurd (omega arith)
be_bytes_beside (a ∷ b ∷ c ∷ []) long = absurd (omega arith)
be_bytes_beside (a ∷ b ∷ c ∷ d ∷ []) long = absurd (omega arith)
be_bytes_beside (a ∷ b ∷ c ∷ d ∷ e ∷ []) long = absurd (omega arith)
be_bytes_beside (a ∷ b ∷ c ∷ d ∷ e ∷ f ∷ []) long = absurd (omega arith)
be_bytes_beside (a ∷ b ∷ c ∷ d ∷ e ∷ f ∷ g ∷ []) long = absurd (omega arith)
be_bytes_beside (a ∷ b ∷ c ∷ d ∷ e ∷ f ∷ g ∷ h ∷ k ∷ xs) long = absurd (omega arith)

-- ---- all their digits

one_beside : (m a x : ℕ) → x < 256 → digits (m + 8) (a * 256 + x) ≡ digits m a ++ digits 8 x
one_beside m a x h =
    digits_append m 8 (a * 256 + x)
    ∙ ap₂ (λ (n : ℕ) (v : List ℕ). digits m n ++ v) (high a 8 h) (sym (digits-mod-pow 8 8 (a * 256 + x) (le_refl 8)) ∙ ap (digits 8) (low a 8 h))

beside_from_lem : (xs : List ℕ) (m a : ℕ) → Bytes xs → digits (m + 8 * length xs) (beside_from a xs) ≡ digits m a ++ bits_of xs
unfolding beside_from bits_of
beside_from_lem [] m a h = let e : m + 8 * 0 ≡ m = omega arith in ap (λ (n : ℕ). digits n a) e ∙ sym (append-nil (digits m a))
beside_from_lem (x ∷ xs) m a h =
    let b = a * 256 + x in
    let e : m + 8 * suc (length xs) ≡ m + 8 + 8 * length xs = omega arith in
    ap (λ (n : ℕ). digits n (beside_from b xs)) e ∙ beside_from_lem xs (m + 8) b h.1
    ∙ ap (λ (v : List ℕ). v ++ bits_of xs) (one_beside m a x h.0) ∙ append_assoc (digits m a) (digits 8 x) (bits_of xs)

pub beside-digits : (xs : List ℕ) → length xs ≡ 8 → Bytes xs → digits 64 (beside xs) ≡ bits_of xs
unfolding digits
beside-digits xs long h = let e : 64 ≡ 0 + 8 * length xs = omega arith in ap (λ (n : ℕ). digits n (beside xs)) e ∙ beside_from_lem xs 0 0 h

-- ---- the lowest digit of each

masked_from : (ws : List ℕ) (a m : ℕ) → Bytes ws
    → bit_and (beside_from a ws) (beside_from m (replicate (length ws) 1)) ≡ beside_from (bit_and a m) (lowest ws)
unfolding beside_from
masked_from [] a m h = refl
masked_from (w ∷ ws) a m h =
    masked_from ws (a * 256 + w) (m * 256 + 1) h.1
    ∙ ap (λ (n : ℕ). beside_from n (lowest ws)) (and_block 8 a m w 1 h.0 (lit< tt) ∙ ap (λ (n : ℕ). bit_and a m * 256 + n) (and_mask w 1))

mask : 0x0101010101010101 ≡ beside (replicate 8 1)
unfolding beside_from
mask = refl

pub masked : (ws : List ℕ) → length ws ≡ 8 → Bytes ws → bit_and (beside ws) 0x0101010101010101 ≡ beside (lowest ws)
masked ws long h = ap (bit_and (beside ws)) (mask ∙ ap (λ (n : ℕ). beside (replicate n 1)) (sym long)) ∙ masked_from ws 0 0 h

-- ---- eight elements from the last to the first, and their lowest digits brought together

abbrev turned : List ℕ → List ℕ
turned ws = get_or ws 7 0 ∷ get_or ws 6 0 ∷ get_or ws 5 0 ∷ get_or ws 4 0 ∷ get_or ws 3 0 ∷ get_or ws 2 0 ∷ get_or ws 1 0 ∷ get_or ws 0 0 ∷ []

le_bytes_beside : (ws : List ℕ) → from_le_bytes w64 ws ≡ beside (turned ws)
unfolding beside_from
le_bytes_beside ws = omega arith

lowest-turned : (ws : List ℕ) → lowest (turned ws) ≡ turned (lowest ws)
lowest-turned ws =
    rw (lowest_at ws 0, lowest_at ws 1, lowest_at ws 2, lowest_at ws 3, lowest_at ws 4, lowest_at ws 5, lowest_at ws 6, lowest_at ws 7) refl

-- at the top of a product
abbrev pub gathered : ℕ → ℕ
gathered x = x * 0x8040201008040201 % 2 ^ 64 / 2 ^ 56

gathered_all : (z : ℕ) → z < 256 → gathered (beside (turned (digits 8 z))) ≡ z
unfolding beside_from digits
gathered_all = all_equal 256 (λ z. gathered (beside (turned (digits 8 z)))) (λ z. z) tt

-- the lowest digits of eight elements
pub eight_digits : (ws : List ℕ) → length ws ≡ 8 → ((i : ℕ) → get_or ws i 0 < 256)
    → digits 8 (gathered (bit_and (from_le_bytes w64 ws) 0x0101010101010101)) ≡ lowest ws
eight_digits ws long octet =
    let bs = lowest ws in
    let z = as_number bs in
    let all : length bs ≡ 8 = length-lowest ws ∙ long in
    let ez : digits 8 z ≡ bs = ap (λ (n : ℕ). digits n z) (sym all) ∙ digits_number bs (lowest_bits ws) in
    let side : bit_and (from_le_bytes w64 ws) 0x0101010101010101 ≡ beside (turned (digits 8 z))
    = ap (λ (n : ℕ). bit_and n 0x0101010101010101) (le_bytes_beside ws)
    ∙ masked (turned ws) refl (octet 7, (octet 6, (octet 5, (octet 4, (octet 3, (octet 2, (octet 1, (octet 0, tt))))))))
    ∙ ap beside (lowest-turned ws ∙ ap turned (sym ez)) in
    ap (digits 8) (ap gathered side ∙ gathered_all z (number_low 8 bs (omega (arith, all)))) ∙ ez
