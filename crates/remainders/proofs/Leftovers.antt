-- With the table of a generator, what a lent table gives for a packed word is its remainder.
-- Assumes nothing.
use mathlib.Core.Path.{◌≡◌, sym, ap, ◌∙◌}
use mathlib.Core.List.{List}
use Prim.Native.Nat.{ℕ, suc, ◌+◌, ◌-◌, ◌*◌, ◌/◌, ◌%◌, ◌^◌, ◌≤◌, ◌<◌}
use native.Mathlib.Nat.{add-zero, mul_assoc}
use native.Mathlib.Omega.{arith}
use lib.Arith.{digits_mod}
use lib.Bits.{bit_xor}
use lib.ListN.{get_or, take, drop}
use lib.Pow.{pow_pos, pow-add}
use Rattle.bits.specs.Remainders.{remainder}
use Rattle.bch.specs.Registers.{at_top, whole, Remainders}
use Rattle.bch.specs.Held.{Sound, code_of, table_of, Tabled}
use Rattle.bch.specs.declared.code.Held.{Held}
use Rattle.bch.proofs.Entries.{table_fits}
use Rattle.bits.proofs.Remainders.{remainder_scaled}
use Rattle.packed.specs.Packed.{bits512}
use Rattle.remainders.specs.Taking.{leftover_by}
use Rattle.remainders.proofs.Narrow.{narrowed}
use Rattle.remainders.proofs.Turns.{taken_by_lem}

-- of the table of a sound code as many machine words of an entry are read as its remainders need; of what is known of the code this much is used
pub sound_narrowed : (h : Held) → h.k < h.n → h.n - h.k ≤ 192 → whole h.generator ≡ (code_of h).generator * 2 ^ (192 - (h.n - h.k))
    → (table : List ℕ) → ((j : ℕ) → get_or table j 0 < 2 ^ 64) → Remainders (whole h.generator) table
    → Remainders (whole h.generator) (take (64 * suc ((h.n - h.k - 1) / 64)) table)
sound_narrowed h order narrow exact table fit rule =
    narrowed (whole h.generator) table fit rule ((h.n - h.k - 1) / 64) (omega (arith, narrow)) zeros
  where
    zeros : (w : List ℕ) → remainder 192 (whole h.generator) w % 2 ^ (128 - 64 * ((h.n - h.k - 1) / 64)) ≡ 0
    zeros w =
        let r = h.n - h.k in
        let x = remainder r (code_of h).generator w in
        let d = 128 - 64 * ((r - 1) / 64) in
        let e : 192 - r ≡ 192 - r - d + d = omega (arith, narrow, order) in
        ap (λ (y : ℕ). y % 2 ^ d)
        (ap (λ (g : ℕ). remainder 192 g w) exact ∙ remainder_scaled r (code_of h).generator narrow w
        ∙ ap (λ (j : ℕ). x * 2 ^ j) e ∙ ap (λ (y : ℕ). x * y) (pow-add 2 (192 - r - d) d) ∙ sym (mul_assoc x (2 ^ (192 - r - d)) (2 ^ d))
        ∙ sym (add-zero (x * 2 ^ (192 - r - d) * 2 ^ d)))
        ∙ digits_mod (x * 2 ^ (192 - r - d)) (pow_pos d)

-- so it is of the code's own table
pub table_narrowed : {h : Held} → Sound h → Tabled h → Remainders (whole h.generator) (take (64 * suc ((h.n - h.k - 1) / 64)) (table_of h))
table_narrowed {h} sound rule = sound_narrowed h sound.rooted.order sound.narrow sound.exact (table_of h) (table_fits h) rule

-- k information bits, and what stands behind them at the top added
pub leftover_by_lem : (g : ℕ) (table words : List ℕ) (k : ℕ) → Remainders g table → g / 2 ^ 192 ≡ 1 → k % 8 ≡ 0 → k < 512
    → leftover_by table k words ≡ bit_xor (remainder 192 g (take k (bits512 words))) (at_top (take 192 (drop k (bits512 words))))
unfolding leftover_by
leftover_by_lem g table words k rule degree whole low =
    let e : 8 * (k / 8) ≡ k = omega arith in
    ap (λ (x : ℕ). bit_xor x (at_top (take 192 (drop k (bits512 words)))))
    (taken_by_lem g table rule degree words (k / 8) (omega arith) ∙ ap (λ (n : ℕ). remainder 192 g (take n (bits512 words))) e)
