-- The 192 bits from a place on, at the top of a register: three machine words, each put together from two that stand side by side.
-- Assumes nothing.
use mathlib.Core.Path.{◌≡◌, refl, sym, ap, ap₂, ◌∙◌}
use mathlib.Core.List.{List, [], ◌∷◌, ◌++◌, append_assoc}
use Prim.Native.Nat.{ℕ, zero, suc, ◌+◌, ◌-◌, ◌*◌, ◌/◌, ◌%◌, ◌^◌, ◌≤◌, ◌<◌}
use native.Mathlib.Omega.{arith}
use native.Mathlib.Nat.{le_refl, mul-one, zero-add, div-one}
use native.Mathlib.Numerals.{towards_suc}
use lib.Arith.{digits_div, digits_mod}
use lib.Dec.{lit≤}
use lib.ListN.{length, get_or, take, drop, replicate, length-append, length-take, drop_of_length-le}
use lib.Seq.{take_at, drop-append-le, drop-append-add}
use Rattle.bits.specs.Words.{digits}
use Rattle.bits.proofs.Digits.{length_digits}
use Rattle.packed.specs.Packed.{bits_from, bits512}
use Rattle.bits.proofs.Shifts.{digits-mod-pow, digits_append}
use Rattle.packed.proofs.Walks.{from_append, length_from, length_512}
use Rattle.packed.proofs.Windows.{across_of, next_across, same_from, blank_from}
use Rattle.bch.specs.Registers.{at_top}
use Rattle.bch.proofs.Triples.{joined, joined-lt, joined_top}
use Rattle.bch.proofs.Tops.{at_top-digits}

-- ---- zeros behind bits at the top

blank_top : (n k : ℕ) → at_top (take n (replicate k 0)) ≡ 0
unfolding at_top
blank_top zero k = refl
blank_top (suc n) zero = refl
blank_top (suc n) (suc k) = ap (λ (x : ℕ). 0 * 2 ^ 191 + x / 2) (blank_top n k)

-- zeros behind bits count for nothing, also where some are cut off
top_cut : (n k : ℕ) (bits : List ℕ) → at_top (take n (bits ++ replicate k 0)) ≡ at_top (take n bits)
unfolding at_top
top_cut zero k bits = refl
top_cut (suc n) k [] = blank_top (suc n) k
top_cut (suc n) k (b ∷ bits) = ap (λ (x : ℕ). b * 2 ^ 191 + x / 2) (top_cut n k bits)

pub at_top_zeros : (bits : List ℕ) (n : ℕ) → at_top (bits ++ replicate n 0) ≡ at_top bits
unfolding at_top
at_top_zeros [] zero = refl
at_top_zeros [] (suc n) = ap (λ (x : ℕ). 0 * 2 ^ 191 + x / 2) (at_top_zeros [] n)
at_top_zeros (b ∷ bits) n = ap (λ (x : ℕ). b * 2 ^ 191 + x / 2) (at_top_zeros bits n)

-- ---- three machine words at the top

three_digits : (h m l : ℕ) → m < 2 ^ 64 → l < 2 ^ 64 → digits 192 (joined (2 ^ 64) h m l) ≡ digits 64 h ++ (digits 64 m ++ digits 64 l)
three_digits h m l km kl =
    let x = joined (2 ^ 64) h m l in
    let dh : x / 2 ^ 128 ≡ h = joined_top (2 ^ 64) 1 h m l km kl ∙ div-one h in
    let dm : digits 64 (x / 2 ^ 64) ≡ digits 64 m
    = ap (digits 64) (digits_div (h * 2 ^ 64 + m) kl) ∙ sym (digits-mod-pow 64 64 (h * 2 ^ 64 + m) (le_refl 64)) ∙ ap (digits 64) (digits_mod h km) in
    let dl : digits 64 x ≡ digits 64 l = sym (digits-mod-pow 64 64 x (le_refl 64)) ∙ ap (digits 64) (digits_mod (h * 2 ^ 64 + m) kl) in
    digits_append 64 128 x ∙ ap₂ ◌++◌ (ap (digits 64) dh) (digits_append 64 64 x ∙ ap₂ ◌++◌ dm dl)

three_top : (h m l : ℕ) → h < 2 ^ 64 → m < 2 ^ 64 → l < 2 ^ 64 → joined (2 ^ 64) h m l ≡ at_top (digits 64 h ++ (digits 64 m ++ digits 64 l))
three_top h m l kh km kl =
    let x = joined (2 ^ 64) h m l in
    sym (ap at_top (sym (three_digits h m l km kl)) ∙ at_top-digits 192 x (le_refl 192) (joined-lt {W = 2 ^ 64} kh km kl) ∙ mul-one x)

-- three in a row, from a place of the first of four on
three_across : (ws : List ℕ) (n i p h m l : ℕ) → p ≤ 64
    → digits 64 h ≡ across_of (get_or ws i 0) (get_or ws (suc i) 0) p
    → digits 64 m ≡ across_of (get_or ws (suc i) 0) (get_or ws (suc (suc i)) 0) p
    → digits 64 l ≡ across_of (get_or ws (suc (suc i)) 0) (get_or ws (suc (suc (suc i))) 0) p
    → take 192 (drop p (bits_from (suc (suc (suc (suc n)))) i ws)) ≡ digits 64 h ++ (digits 64 m ++ digits 64 l)
three_across ws n i p h m l k eh em el =
    let three = digits 64 h ++ (digits 64 m ++ digits 64 l) in
    let rest = drop p (bits_from (suc n) (suc (suc (suc i))) ws) in
    let long : length three ≡ 192 = simp (length-append, length_digits) in
    let s : drop p (bits_from (suc (suc (suc (suc n)))) i ws) ≡ three ++ rest
    = rw (next_across ws (suc (suc n)) i p, next_across ws (suc n) (suc i) p, next_across ws n (suc (suc i)) p, ← eh, ← em, ← el) (simp append_assoc) in
    ap (take 192) s ∙ take_at three rest 192 long

-- ---- eight machine words, with zeros behind them

-- four more, and read from a place on
more_from : (ws : List ℕ) (at : ℕ) → at ≤ 512
    → drop (at % 64) (bits_from (12 - at / 64) (at / 64) (take 8 ws)) ≡ drop at (bits512 ws) ++ replicate 256 0
unfolding bits512
more_from ws at h =
    let eight = take 8 ws in
    let i = at / 64 in
    let front = bits_from i 0 eight in
    let rest = bits_from (12 - i) i eight in
    let e : 12 ≡ i + (12 - i) = omega arith in
    let f : at ≡ length front + at % 64 = omega (arith, length_from i 0 eight) in
    let short : length eight ≤ 8 = omega (arith, length-take 8 ws) in
    let all : bits512 ws ++ replicate 256 0 ≡ bits_from 12 0 eight
    = ap₂ ◌++◌ (same_from 8 ws 8 0 (lit≤ tt)) (sym (blank_from eight 4 8 short)) ∙ sym (from_append 8 4 0 eight) in
    let cut : bits_from 12 0 eight ≡ front ++ rest
    = ap (λ (n : ℕ). bits_from n 0 eight) e ∙ from_append i (12 - i) 0 eight ∙ ap (λ (j : ℕ). front ++ bits_from (12 - i) j eight) (zero-add i) in
    sym (sym (drop-append-le at (bits512 ws) (replicate 256 0) (omega (arith, length_512 ws)))
    ∙ ap₂ drop f (all ∙ cut) ∙ drop-append-add front rest (at % 64))

-- ---- the 192 bits from a place on

pub window : (ws : List ℕ) (at h m l : ℕ) → at < 512 → h < 2 ^ 64 → m < 2 ^ 64 → l < 2 ^ 64
    → digits 64 h ≡ across_of (get_or (take 8 ws) (at / 64) 0) (get_or (take 8 ws) (at / 64 + 1) 0) (at % 64)
    → digits 64 m ≡ across_of (get_or (take 8 ws) (at / 64 + 1) 0) (get_or (take 8 ws) (at / 64 + 2) 0) (at % 64)
    → digits 64 l ≡ across_of (get_or (take 8 ws) (at / 64 + 2) 0) (get_or (take 8 ws) (at / 64 + 3) 0) (at % 64)
    → joined (2 ^ 64) h m l ≡ at_top (take 192 (drop at (bits512 ws)))
window ws at h m l low kh km kl eh em el =
    let i = at / 64 in
    let e : suc (suc (suc (suc (8 - i)))) ≡ 12 - i = omega arith in
    three_top h m l kh km kl
    ∙ ap at_top
    (sym (three_across (take 8 ws) (8 - i) i (at % 64) h m l (omega arith) (simp towards_suc at eh) (simp towards_suc at em) (simp towards_suc at el))
    ∙ ap (λ (n : ℕ). take 192 (drop (at % 64) (bits_from n i (take 8 ws)))) e ∙ ap (take 192) (more_from ws at (omega arith)))
    ∙ top_cut 192 256 (drop at (bits512 ws))

-- no bit behind the last
pub window_none : (ws : List ℕ) (at : ℕ) → 511 < at → 0 ≡ at_top (take 192 (drop at (bits512 ws)))
unfolding at_top
window_none ws at h = rw (drop_of_length-le (bits512 ws) {i = at} (omega (arith, length_512 ws)))
