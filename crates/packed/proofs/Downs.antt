-- Bits put further behind, with zeros before them: each machine word is put together from two that stand side by side, the first of them behind a 0.
-- Assumes nothing.
use mathlib.Core.Path.{◌≡◌, refl, sym, ap, ap₂, ◌∙◌}
use mathlib.Core.List.{List, ◌∷◌, ◌++◌, append_assoc}
use Prim.Native.Nat.{ℕ, suc, ◌+◌, ◌-◌, ◌*◌, ◌/◌, ◌%◌, ◌≤◌, ◌<◌, min}
use native.Mathlib.Omega.{arith}
use native.Mathlib.Nat.{le_of_eq, zero-add}
use lib.ListN.{length, get_or, take, drop, replicate, length-append, length-take, length-replicate, replicate-append-replicate}
use lib.Seq.{take_all, take_at, drop_at, take-take, drop-drop, take-append-le, drop-append-le, drop-append-add}
use Rattle.bits.specs.Words.{digits}
use Rattle.bits.proofs.Digits.{length_digits}
use Rattle.bits.proofs.Shifts.{digits-zero}
use Rattle.packed.specs.Packed.{bits_from, bits512}
use Rattle.packed.proofs.Walks.{from_append, length_from, length_512}
use Rattle.packed.proofs.Paddings.{take-zeros, drop-take}
use Rattle.packed.proofs.Windows.{across_of, next_across}
use Rattle.packed.proofs.Amid.{zeros, from_zeros}
use Rattle.packed.proofs.Stores.{Stored}

-- ---- 512 bits, k places further behind

abbrev pub down_of : List ℕ → ℕ → List ℕ
down_of ws k = take 512 (replicate k 0 ++ bits512 ws)

pub length_down : (ws : List ℕ) (k : ℕ) → length (down_of ws k) ≡ 512
length_down ws k =
    length-take 512 (zeros k ++ bits512 ws)
    ∙ omega (arith, length-append (zeros k) (bits512 ws), length-replicate {A = ℕ} k 0, length_512 ws)

-- the first of them are zeros
down_front : (ws : List ℕ) (k n : ℕ) → n ≤ k → n ≤ 512 → take n (down_of ws k) ≡ zeros n
down_front ws k n h room =
    let e : min n k ≡ n = omega arith in
    take-take n 512 (zeros k ++ bits512 ws) room ∙ take-append-le n (zeros k) (bits512 ws) (omega (arith, length-replicate {A = ℕ} k 0))
    ∙ take-zeros n k ∙ ap zeros e

-- all of them
pub down_none : (ws : List ℕ) (k : ℕ) → 511 < k → bits512 (replicate 8 0) ≡ down_of ws k
unfolding bits512
down_none ws k h = from_zeros 8 8 0 ∙ sym (down_front ws k 512 (omega arith) (omega arith)) ∙ take_all 512 (down_of ws k) (le_of_eq (length_down ws k))

-- before the first bit so many machine words are zero
pub down_begun : (ws : List ℕ) (k : ℕ) → k ≤ 511 → Stored (down_of ws k) (replicate 8 0) (k / 64)
down_begun ws k h = (refl, from_zeros 8 (k / 64) 0 ∙ sym (down_front ws k (64 * (k / 64)) (omega arith) (omega arith)))

-- with a 0 before the machine words, the bits begin within it
behind_zero : (ws : List ℕ) (p : ℕ) → p ≤ 64 → zeros p ++ bits512 ws ≡ drop (64 - p) (bits_from 9 0 (0 ∷ ws))
unfolding bits512 bits_from
behind_zero ws p h =
    let e : 64 ≡ 64 - p + p = omega arith in
    let cut : drop (64 - p) (digits 64 0) ≡ zeros p
    = ap (drop (64 - p)) (digits-zero 64 ∙ ap zeros e ∙ sym (replicate-append-replicate (64 - p) p 0))
    ∙ drop_at (zeros (64 - p)) (zeros p) (64 - p) (length-replicate (64 - p) 0) in
    sym (drop-append-le (64 - p) (digits 64 0) (bits512 ws) (omega (arith, length_digits 64 0)) ∙ ap (λ (l : List ℕ). l ++ bits512 ws) cut)

-- from a place on, behind j machine words
past_words : (ws : List ℕ) (n j q : ℕ) → drop (q + 64 * j) (bits_from (j + n) 0 ws) ≡ drop q (bits_from n j ws)
past_words ws n j q =
    let front = bits_from j 0 ws in
    let e : q + 64 * j ≡ length front + q = omega (arith, length_from j 0 ws) in
    ap₂ drop e (from_append j n 0 ws ∙ ap (λ (i : ℕ). front ++ bits_from n i ws) (zero-add j)) ∙ drop-append-add front (bits_from n j ws) q

-- the bits from the machine word w on
down_from : (ws : List ℕ) (k w : ℕ) → k / 64 ≤ w → w < 8
    → drop (64 * w) (zeros k ++ bits512 ws) ≡ drop (64 - k % 64) (bits_from (suc (suc (7 - (w - k / 64)))) (w - k / 64) (0 ∷ ws))
down_from ws k w low h =
    let n = 64 * (k / 64) in
    let p = k % 64 in
    let j = w - k / 64 in
    let all = bits_from 9 0 (0 ∷ ws) in
    let e : k ≡ n + p = omega arith in
    let f : 64 * w ≡ length (zeros n) + 64 * j = omega (arith, length-replicate {A = ℕ} n 0) in
    let g : 9 ≡ j + suc (suc (7 - j)) = omega arith in
    let start : zeros k ++ bits512 ws ≡ zeros n ++ drop (64 - p) all
    = ap (λ (m : ℕ). zeros m ++ bits512 ws) e ∙ ap (λ (l : List ℕ). l ++ bits512 ws) (sym (replicate-append-replicate n p 0))
    ∙ append_assoc (zeros n) (zeros p) (bits512 ws) ∙ ap (λ (l : List ℕ). zeros n ++ l) (behind_zero ws p (omega arith)) in
    ap₂ drop f start ∙ drop-append-add (zeros n) (drop (64 - p) all) (64 * j) ∙ drop-drop (64 * j) (64 - p) all
    ∙ ap (λ (m : ℕ). drop (64 - p + 64 * j) (bits_from m 0 (0 ∷ ws))) g ∙ past_words (0 ∷ ws) (suc (suc (7 - j))) j (64 - p)

-- those that a machine word holds
pub down_at : (ws : List ℕ) (k w x : ℕ) → k / 64 ≤ w → w < 8
    → digits 64 x ≡ across_of (get_or (0 ∷ ws) (w - k / 64) 0) (get_or ws (w - k / 64) 0) (64 - k % 64)
    → digits 64 x ≡ take 64 (drop (64 * w) (down_of ws k))
down_at ws k w x low h e =
    let j = w - k / 64 in
    let q = 64 - k % 64 in
    let bits = zeros k ++ bits512 ws in
    let rest = drop q (bits_from (suc (7 - j)) (suc j) (0 ∷ ws)) in
    let here : drop (64 * w) bits ≡ digits 64 x ++ rest
    = down_from ws k w low h ∙ next_across (0 ∷ ws) (7 - j) j q (omega arith) ∙ ap (λ (l : List ℕ). l ++ rest) (sym e) in
    sym (ap (take 64) (drop-take (64 * w) 512 bits)
    ∙ take-take 64 (512 - 64 * w) (drop (64 * w) bits) (omega arith)
    ∙ ap (take 64) here ∙ take_at (digits 64 x) rest 64 (length_digits 64 x))
