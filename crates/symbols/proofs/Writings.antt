-- Bits to points: the number of bits of machine words, the points entry by entry, by a table that is lent and by ours, and those of no more bits than are needed.
-- Assumes nothing.
use mathlib.Core.Path.{◌≡◌, refl, sym, ap, ap₂, ◌∙◌}
use mathlib.Core.Bool.{cond}
use mathlib.Core.List.{List, [], ◌∷◌, ◌++◌, map}
use Prim.Native.Nat.{ℕ, zero, suc, ◌+◌, ◌-◌, ◌/◌, ◌%◌, ◌^◌, ◌≤◌, ◌<◌}
use native.Mathlib.Nat.{zero-add}
use native.Mathlib.Numerals.{add-one}
use native.Mathlib.Omega.{arith}
use lib.IntN.{ℤ}
use lib.ListN.{length, get_or, take, drop}
use lib.Pow.{shr_lt}
use lib.Seq.{take_at, take-take, take-append-le, drop-drop, drop-append-add}
use Rattle.bits.specs.Words.{digits}
use Rattle.bits.specs.Bytes.{as_number}
use Rattle.bits.proofs.Digits.{length_digits, digits_bits}
use Rattle.bits.proofs.Numbers.{digits_number, digits_inj, number_low}
use Rattle.bits.proofs.Shifts.{digits_append}
use Rattle.packed.specs.Packed.{bits_from}
use Rattle.packed.proofs.Paddings.{drop-take}
use Rattle.packed.proofs.Walks.{from_append, length_from}
use Rattle.packed.proofs.Windows.{across_of, next_across}
use Rattle.points.specs.declared.Point.{Point}
use Rattle.points.specs.declared.Point.TheVariants.{Nothing}
use Rattle.points.specs.Constellations.{point_of}
use Rattle.points.specs.Lent.{point_in, our_cells}
use Rattle.points.proofs.Lending.{point_ours}
use Rattle.symbols.specs.Grids.{spread}
use Rattle.symbols.specs.Schemes.{sum_of, mapped}
use Rattle.symbols.specs.ByScheme.{readable, mapped_by, symbol_written, symbol_written_in}

-- ---- the number of n bits of machine words

number_digits : (n x : ℕ) → x < 2 ^ n → as_number (digits n x) ≡ x
number_digits n x l =
    let bits = digits n x in
    let long = length_digits n x in
    digits_inj n (as_number bits) x (number_low n bits (omega (arith, long))) l
    (ap (λ (m : ℕ). digits m (as_number bits)) (sym long) ∙ digits_number bits (digits_bits n x))

-- the highest n digits of a machine word
number_high : (n x : ℕ) → n ≤ 64 → x < 2 ^ 64 → as_number (take n (digits 64 x)) ≡ x / 2 ^ (64 - n)
number_high n x h l =
    let e : 64 ≡ n + (64 - n) = omega arith in
    let high = digits n (x / 2 ^ (64 - n)) in
    let low : x < 2 ^ (n + (64 - n)) = rw (← e) l in
    ap as_number (ap (λ (m : ℕ). take n (digits m x)) e ∙ ap (take n) (digits_append n (64 - n) x)
    ∙ take_at high (digits (64 - n) x) n (length_digits n (x / 2 ^ (64 - n))))
    ∙ number_digits n (x / 2 ^ (64 - n)) (shr_lt n (64 - n) low)

-- of 41 machine words, where x holds 64 digits from the place `at` on
pub number_at : (ws : List ℕ) (at n x : ℕ) → at < 2560 → n ≤ 64 → x < 2 ^ 64
    → digits 64 x ≡ across_of (get_or ws (at / 64) 0) (get_or ws (at / 64 + 1) 0) (at % 64)
    → x / 2 ^ (64 - n) ≡ as_number (take n (drop at (bits_from 41 0 ws)))
number_at ws at n x few h l e =
    let i = at / 64 in
    let p = at % 64 in
    let front = bits_from i 0 ws in
    let rest = bits_from (suc (suc (39 - i))) i ws in
    let more = drop p (bits_from (suc (39 - i)) (suc i) ws) in
    let all : 41 ≡ i + suc (suc (39 - i)) = omega arith in
    let place : at ≡ length front + p = omega (arith, length_from i 0 ws) in
    let cut : bits_from 41 0 ws ≡ front ++ rest
    = ap (λ (m : ℕ). bits_from m 0 ws) all ∙ from_append i (suc (suc (39 - i))) 0 ws ∙ ap (λ (j : ℕ). front ++ bits_from (suc (suc (39 - i))) j ws) (zero-add i) in
    let behind : drop at (bits_from 41 0 ws) ≡ digits 64 x ++ more
    = ap₂ drop place cut ∙ drop-append-add front rest p ∙ next_across ws (39 - i) i p (omega arith) ∙ ap (λ (v : List ℕ). v ++ more) (sym (rw add-one at e)) in
    sym (ap (λ (v : List ℕ). as_number (take n v)) behind
    ∙ ap as_number (take-append-le n (digits 64 x) more (omega (arith, length_digits 64 x))) ∙ number_high n x h l)

-- ---- the points, entry by entry

pub mapped_at : (ns bits : List ℕ) (s : ℕ) → s < length ns
    → get_or (mapped ns bits) s Nothing ≡ point_of (get_or ns s 0) (as_number (take (get_or ns s 0) (drop (sum_of (take s ns)) bits)))
unfolding mapped sum_of
mapped_at [] bits s h = absurd (omega arith)
mapped_at (n ∷ ns) bits zero h = refl
mapped_at (n ∷ ns) bits (suc s) h =
    mapped_at ns (drop n bits) s (omega arith)
    ∙ ap (λ (v : List ℕ). point_of (get_or ns s 0) (as_number (take (get_or ns s 0) v))) (drop-drop (sum_of (take s ns)) n bits)

-- ---- by a table that is lent

pub length-mapped_by : (cells ns bits : List ℕ) → length (mapped_by cells ns bits) ≡ length ns
unfolding mapped_by
length-mapped_by cells [] bits = refl
length-mapped_by cells (n ∷ ns) bits = ap suc (length-mapped_by cells ns (drop n bits))

pub mapped_by_at : (cells ns bits : List ℕ) (s : ℕ) → s < length ns
    → get_or (mapped_by cells ns bits) s Nothing ≡ point_in cells (get_or ns s 0) (as_number (take (get_or ns s 0) (drop (sum_of (take s ns)) bits)))
unfolding mapped_by sum_of
mapped_by_at cells [] bits s h = absurd (omega arith)
mapped_by_at cells (n ∷ ns) bits zero h = refl
mapped_by_at cells (n ∷ ns) bits (suc s) h =
    mapped_by_at cells ns (drop n bits) s (omega arith)
    ∙ ap (λ (v : List ℕ). point_in cells (get_or ns s 0) (as_number (take (get_or ns s 0) v))) (drop-drop (sum_of (take s ns)) n bits)

-- ---- with our table, they are those of the constellations

pub mapped_ours : (ns bits : List ℕ) → mapped_by our_cells ns bits ≡ mapped ns bits
unfolding mapped_by mapped
mapped_ours [] bits = refl
mapped_ours (n ∷ ns) bits = ap₂ ◌∷◌ (point_ours n (as_number (take n bits))) (mapped_ours ns (drop n bits))

-- so is what is put onto the sub-carriers
pub written_ours : (level : Point → ℤ) {cells : List ℕ} → cells ≡ our_cells → (scheme bits : List ℕ) (is qs levels : List ℤ)
    → symbol_written_in level cells scheme bits is qs levels ≡ symbol_written level scheme bits is qs levels
written_ours level ours scheme bits is qs levels =
    ap (λ (ps : List Point). cond (readable 1 scheme is qs) (spread (map level ps) ++ drop 256 levels) levels)
    (ap (λ (table : List ℕ). mapped_by table scheme bits) ours ∙ mapped_ours scheme bits)

-- ---- bits beyond those of the scheme do not matter

pub mapped-take : (ns bits : List ℕ) (n : ℕ) → sum_of ns ≤ n → mapped ns (take n bits) ≡ mapped ns bits
unfolding mapped sum_of
mapped-take [] bits n h = refl
mapped-take (k ∷ ns) bits n h =
    rw (take-take k n bits (omega arith), drop-take k n bits, mapped-take ns (drop k bits) (n - k) (omega arith))

-- so those of the same first bits are the same
pub mapped_same : (ns a b : List ℕ) → take (sum_of ns) a ≡ take (sum_of ns) b → mapped ns a ≡ mapped ns b
mapped_same ns a b e =
    let n = sum_of ns in
    sym (mapped-take ns a n (omega arith)) ∙ ap (mapped ns) e ∙ mapped-take ns b n (omega arith)
