-- Bits of machine words from a place on: 64 digits, put together from two machine words that stand side by side, and 512.
-- Assumes nothing.
use mathlib.Core.Path.{◌≡◌, refl, sym, ap, ap₂, ◌∙◌}
use mathlib.Core.List.{List, ◌++◌, append_assoc, append-nil}
use Prim.Native.Nat.{ℕ, zero, suc, ◌+◌, ◌-◌, ◌*◌, ◌/◌, ◌%◌, ◌^◌, ◌≤◌, ◌<◌}
use native.Mathlib.Omega.{arith}
use native.Mathlib.Nat.{zero-add, mod-mod}
use native.Mathlib.Numerals.{add-one}
use lib.Bits.{bit_or}
use lib.ListN.{length, get_or, take, drop, replicate, length-drop, length-take, take-append-drop, get_or-eq_default, replicate-append-replicate}
use lib.Pow.{shr_lt}
use lib.Seq.{take_at, drop_at, take-take, drop-drop, drop-append-le, drop-append-add, get_or-take}
use Rattle.bits.specs.Words.{digits}
use Rattle.bits.proofs.Digits.{length_digits}
use Rattle.bits.proofs.Shifts.{digits-zero, digits_append, digits-or}
use Rattle.packed.specs.Packed.{bits_from}
use Rattle.packed.proofs.Walks.{from_append, length_from}
use Rattle.packed.proofs.Paddings.{drop-take}

-- ---- 64 digits across two machine words

module _ (p x : ℕ) (h : p ≤ 64) where
  split : digits 64 x ≡ digits p (x / 2 ^ (64 - p)) ++ digits (64 - p) x
  split = let e : 64 ≡ p + (64 - p) = omega arith in ap (λ (n : ℕ). digits n x) e ∙ digits_append p (64 - p) x

  pub drop-digits : drop p (digits 64 x) ≡ digits (64 - p) x
  drop-digits = ap (drop p) split ∙ drop_at (digits p (x / 2 ^ (64 - p))) (digits (64 - p) x) p (length_digits p (x / 2 ^ (64 - p)))

  pub take-digits : take p (digits 64 x) ≡ digits p (x / 2 ^ (64 - p))
  take-digits = ap (take p) split ∙ take_at (digits p (x / 2 ^ (64 - p))) (digits (64 - p) x) p (length_digits p (x / 2 ^ (64 - p)))

-- the digits of a from the place p on, and behind them the p highest of b
abbrev pub across_of : ℕ → ℕ → ℕ → List ℕ
across_of a b p = drop p (digits 64 a) ++ take p (digits 64 b)

pub across_none : (a b p : ℕ) → p ≡ 0 → digits 64 a ≡ across_of a b p
across_none a b p e = rw e (sym (append-nil (digits 64 a)))

pub across_some : (a b p : ℕ) → p ≤ 64 → b < 2 ^ 64 → digits 64 (bit_or (a * 2 ^ p % 2 ^ 64) (b / 2 ^ (64 - p))) ≡ across_of a b p
across_some a b p h l =
    let e : 64 ≡ 64 - p + p = omega arith in
    let f : 64 ≡ p + (64 - p) = omega arith in
    let s : b < 2 ^ (p + (64 - p)) = rw (← f) l in
    ap (λ (n : ℕ). digits n (bit_or (a * 2 ^ p % 2 ^ 64) (b / 2 ^ (64 - p)))) e
    ∙ digits-or (64 - p) p a (b / 2 ^ (64 - p)) (omega arith) (shr_lt p (64 - p) s)
    ∙ sym (ap₂ ◌++◌ (drop-digits p a h) (take-digits p b h))

-- of machine words that are known; a place counts round 64
pub across_known : (p : ℕ) {x y a b : ℕ} → x ≡ a → y ≡ b → across_of x y (p % 64 % 64) ≡ across_of a b (p % 64)
across_known p {x} {y} {a} {b} ex ey = ap₂ (λ (v w : ℕ). across_of v w (p % 64 % 64)) ex ey ∙ ap (across_of a b) (mod-mod p 64)

-- a machine word behind another, from a place of the first on
pub next_across : (ws : List ℕ) (n i p : ℕ) → p ≤ 64
    → drop p (bits_from (suc (suc n)) i ws) ≡ across_of (get_or ws i 0) (get_or ws (suc i) 0) p ++ drop p (bits_from (suc n) (suc i) ws)
unfolding bits_from
next_across ws n i p h =
    let a = digits 64 (get_or ws i 0) in
    let b = digits 64 (get_or ws (suc i) 0) in
    let rest = bits_from n (suc (suc i)) ws in
    let la : p ≤ length a = omega (arith, length_digits 64 (get_or ws i 0)) in
    let lb : p ≤ length b = omega (arith, length_digits 64 (get_or ws (suc i) 0)) in
    drop-append-le p a (b ++ rest) la
    ∙ ap (λ (v : List ℕ). drop p a ++ (v ++ rest)) (sym (take-append-drop p b))
    ∙ ap (λ (v : List ℕ). drop p a ++ v) (append_assoc (take p b) (drop p b) rest)
    ∙ sym (append_assoc (drop p a) (take p b) (drop p b ++ rest))
    ∙ ap (λ (v : List ℕ). across_of (get_or ws i 0) (get_or ws (suc i) 0) p ++ v) (sym (drop-append-le p b rest lb))

-- ---- the machine words of a list, and zeros behind the last

-- those of its first m
pub same_from : (m : ℕ) (ws : List ℕ) (n i : ℕ) → n + i ≤ m → bits_from n i ws ≡ bits_from n i (take m ws)
unfolding bits_from
same_from m ws zero i h = refl
same_from m ws (suc n) i h =
    ap₂ (λ (x : ℕ) (v : List ℕ). digits 64 x ++ v) (sym (get_or-take m ws i 0 (omega arith))) (same_from m ws n (suc i) (omega arith))

pub blank_from : (ws : List ℕ) (n i : ℕ) → length ws ≤ i → bits_from n i ws ≡ replicate (64 * n) 0
unfolding bits_from
blank_from ws zero i h = refl
blank_from ws (suc n) i h =
    let e : 64 + 64 * n ≡ 64 * suc n = omega arith in
    ap₂ ◌++◌ (ap (digits 64) (get_or-eq_default ws 0 h) ∙ digits-zero 64) (blank_from ws n (suc i) (omega arith))
    ∙ replicate-append-replicate 64 (64 * n) 0 ∙ ap (λ (k : ℕ). replicate k 0) e

-- ---- 512 bits from a place on

abbrev pub window_of : List ℕ → ℕ → List ℕ
window_of ws at = take 512 (drop at (bits_from (at / 64 + 9) 0 ws))

pub length_window : (ws : List ℕ) (at : ℕ) → length (window_of ws at) ≡ 512
length_window ws at =
    let all = bits_from (at / 64 + 9) 0 ws in
    length-take 512 (drop at all) ∙ omega (arith, length-drop at all, length_from (at / 64 + 9) 0 ws)

-- behind whole machine words the window goes on within the next
window_from : (ws : List ℕ) (at w : ℕ) → w < 8
    → drop (64 * w) (drop at (bits_from (at / 64 + 9) 0 ws)) ≡ drop (at % 64) (bits_from (suc (suc (7 - w))) (at / 64 + w) ws)
window_from ws at w h =
    let j = at / 64 + w in
    let front = bits_from j 0 ws in
    let rest = bits_from (suc (suc (7 - w))) j ws in
    let e : at / 64 + 9 ≡ j + suc (suc (7 - w)) = omega arith in
    let f : at + 64 * w ≡ length front + at % 64 = omega (arith, length_from j 0 ws) in
    let cut : bits_from (at / 64 + 9) 0 ws ≡ front ++ rest
    = ap (λ (n : ℕ). bits_from n 0 ws) e ∙ from_append j (suc (suc (7 - w))) 0 ws ∙ ap (λ (i : ℕ). front ++ bits_from (suc (suc (7 - w))) i ws) (zero-add j) in
    drop-drop (64 * w) at (bits_from (at / 64 + 9) 0 ws) ∙ ap₂ drop f cut ∙ drop-append-add front rest (at % 64)

-- those that a machine word holds
pub window_at : (ws : List ℕ) (at w x : ℕ) → w < 8
    → digits 64 x ≡ across_of (get_or ws (at / 64 + w) 0) (get_or ws (at / 64 + w + 1) 0) (at % 64)
    → digits 64 x ≡ take 64 (drop (64 * w) (window_of ws at))
window_at ws at w x h e =
    let j = at / 64 + w in
    let p = at % 64 in
    let bits = drop at (bits_from (at / 64 + 9) 0 ws) in
    let rest = drop p (bits_from (suc (7 - w)) (suc j) ws) in
    let here : drop (64 * w) bits ≡ digits 64 x ++ rest
    = window_from ws at w h ∙ next_across ws (7 - w) j p (omega arith) ∙ ap (λ (v : List ℕ). v ++ rest) (sym (rw add-one at e)) in
    sym (ap (take 64) (drop-take (64 * w) 512 bits)
    ∙ take-take 64 (512 - 64 * w) (drop (64 * w) bits) (omega arith)
    ∙ ap (take 64) here ∙ take_at (digits 64 x) rest 64 (length_digits 64 x))
