-- The first bits of machine words: the same of however many they are read, from a place on too; and of eight that are zero.
-- Assumes nothing.
use mathlib.Core.Path.{◌≡◌, sym, ap, ◌∙◌}
use mathlib.Core.List.{List, []}
use Prim.Native.Nat.{ℕ, ◌+◌, ◌-◌, ◌*◌, ◌/◌, ◌≤◌}
use native.Mathlib.Nat.{add_comm}
use native.Mathlib.Omega.{arith}
use lib.ListN.{length, take, drop, replicate}
use lib.Seq.{take-append-le, take-take, take_at, length-take-le}
use Rattle.packed.specs.Packed.{bits_from, bits512, padded}
use Rattle.packed.proofs.Walks.{from_append, length_from}
use Rattle.packed.proofs.Paddings.{drop-take}
use Rattle.packed.proofs.Windows.{window_of, blank_from}

-- more machine words
more_front : (k a n : ℕ) (ws : List ℕ) → k ≤ 64 * a → take k (bits_from (a + n) 0 ws) ≡ take k (bits_from a 0 ws)
more_front k a n ws h =
    ap (take k) (from_append a n 0 ws) ∙ take-append-le k (bits_from a 0 ws) (bits_from n (0 + a) ws) (omega (arith, length_from a 0 ws))

pub same_front : (k a b : ℕ) (ws : List ℕ) → k ≤ 64 * a → k ≤ 64 * b → take k (bits_from a 0 ws) ≡ take k (bits_from b 0 ws)
same_front k a b ws ha hb =
    sym (more_front k a b ws ha) ∙ ap (λ (n : ℕ). take k (bits_from n 0 ws)) (add_comm a b) ∙ more_front k b a ws hb

-- the first bits of a window are those of the machine words
pub window_front : (ws : List ℕ) (m at n : ℕ) → n ≤ 512 → at + n ≤ 64 * m → take n (window_of ws at) ≡ take n (drop at (bits_from m 0 ws))
window_front ws m at n few within =
    let i = at / 64 + 9 in
    let e : at + n - at ≡ n = omega arith in
    let up : (l : List ℕ) → drop at (take (at + n) l) ≡ take n (drop at l)
    = λ l. drop-take at (at + n) l ∙ ap (λ (j : ℕ). take j (drop at l)) e in
    take-take n 512 (drop at (bits_from i 0 ws)) few
    ∙ sym (up (bits_from i 0 ws)) ∙ ap (drop at) (same_front (at + n) i m ws (omega arith) within) ∙ up (bits_from m 0 ws)

-- bits with zeros behind begin with those bits
pub padded_front : (word : List ℕ) (n : ℕ) → n ≤ length word → take n (padded (take n word)) ≡ take n word
padded_front word n h = take_at (take n word) (replicate (512 - length (take n word)) 0) n (length-take-le n word h)

-- nothing packed
pub zeros_512 : bits512 (replicate 8 0) ≡ padded []
unfolding bits512 bits_from
zeros_512 = blank_from [] 8 0 (omega arith)
