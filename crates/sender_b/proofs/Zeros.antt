-- Bits with zeros behind them, up to so many: their first, those behind these, and more bits put behind them.
-- Assumes nothing.
use mathlib.Core.Path.{◌≡◌, refl, sym, ap, ap₂, ◌∙◌}
use mathlib.Core.List.{List, [], ◌∷◌, ◌++◌, append_assoc}
use Prim.Native.Nat.{ℕ, zero, suc, ◌+◌, ◌-◌, ◌/◌, ◌≤◌}
use native.Mathlib.Omega.{arith}
use lib.ListN.{length, take, drop, length-append, length-drop, replicate-append-replicate}
use lib.Seq.{take_all, take_at, take-append-le, drop-append-le, drop-append-add}
use Rattle.packed.specs.Packed.{bits_from, padded, padded_to}
use Rattle.packed.proofs.Walks.{from_append, length_from}
use Rattle.packed.proofs.Amid.{zeros}

-- ---- zeros alone

pub drop-zeros : (i k : ℕ) → drop i (zeros k) ≡ zeros (k - i)
drop-zeros zero k = let e : k ≡ k - 0 = omega arith in ap zeros e
drop-zeros (suc i) zero = let e : 0 ≡ 0 - suc i = omega arith in ap zeros e
drop-zeros (suc i) (suc k) = let e : k - i ≡ suc k - suc i = omega arith in drop-zeros i k ∙ ap zeros e

take-zeros : (m k : ℕ) → m ≤ k → take m (zeros k) ≡ zeros m
take-zeros zero k h = refl
take-zeros (suc m) zero h = absurd (omega arith)
take-zeros (suc m) (suc k) h = ap (λ (l : List ℕ). 0 ∷ l) (take-zeros m k (omega arith))

-- ---- behind bits

-- the first
pub take_padded : (m n : ℕ) (bits : List ℕ) → m ≤ n → take m (padded_to n bits) ≡ padded_to m (take m bits)
take_padded zero n bits h = refl
take_padded (suc m) n [] h = let e : suc m ≡ suc m - 0 = omega arith in take-zeros (suc m) (n - 0) (omega arith) ∙ ap zeros e
take_padded (suc m) n (b ∷ bits) h =
    let e : n - suc (length bits) ≡ n - 1 - length bits = omega arith in
    let f : m - length (take m bits) ≡ suc m - suc (length (take m bits)) = omega arith in
    ap (λ (l : List ℕ). b ∷ l)
    (ap (λ (k : ℕ). take m (bits ++ zeros k)) e ∙ take_padded m (n - 1) bits (omega arith) ∙ ap (λ (k : ℕ). take m bits ++ zeros k) f)

pub take_padded_all : (m n : ℕ) (bits : List ℕ) → length bits ≤ m → m ≤ n → take m (padded_to n bits) ≡ padded_to m bits
take_padded_all m n bits l h = take_padded m n bits h ∙ ap (padded_to m) (take_all m bits l)

-- those behind
pub drop_padded : (k n : ℕ) (bits : List ℕ) → drop k (padded_to n bits) ≡ padded_to (n - k) (drop k bits)
drop_padded zero n bits = let e : n ≡ n - 0 = omega arith in ap (λ (m : ℕ). padded_to m bits) e
drop_padded (suc k) n [] = let e : n - 0 - suc k ≡ n - suc k - 0 = omega arith in drop-zeros (suc k) (n - 0) ∙ ap zeros e
drop_padded (suc k) n (b ∷ bits) =
    let e : n - suc (length bits) ≡ n - 1 - length bits = omega arith in
    let f : n - 1 - k ≡ n - suc k = omega arith in
    ap (λ (m : ℕ). drop k (bits ++ zeros m)) e ∙ drop_padded k (n - 1) bits ∙ ap (λ (m : ℕ). padded_to m (drop k bits)) f

-- more zeros
more_zeros : (n k : ℕ) (bits : List ℕ) → length bits ≤ n → padded_to n bits ++ zeros k ≡ padded_to (n + k) bits
more_zeros n k bits h =
    let e : n - length bits + k ≡ n + k - length bits = omega arith in
    append_assoc bits (zeros (n - length bits)) (zeros k)
    ∙ ap (λ (l : List ℕ). bits ++ l) (replicate-append-replicate (n - length bits) k 0 ∙ ap zeros e)

-- ---- a run

-- its front is gone, and 512 bits at most were left
pub front_gone : (sum : ℕ) (bits : List ℕ) → sum ≤ 2112 → length bits ≤ sum + 512
    → take 512 (drop sum (padded_to 2624 bits)) ++ zeros 2112 ≡ padded_to 2624 (drop sum bits)
front_gone sum bits h few =
    let rest = drop sum bits in
    let l : length rest ≤ 512 = omega (arith, length-drop sum bits) in
    ap (λ (v : List ℕ). take 512 v ++ zeros 2112) (drop_padded sum 2624 bits)
    ∙ ap (λ (v : List ℕ). v ++ zeros 2112) (take_padded_all 512 (2624 - sum) rest l (omega arith))
    ∙ more_zeros 512 2112 rest l

-- 512 bits of a run, from a place on
pub run_window : (ws : List ℕ) (at : ℕ) → at ≤ 2100 → take 512 (drop at (bits_from (at / 64 + 9) 0 ws)) ≡ take 512 (drop at (bits_from 41 0 ws))
run_window ws at h =
    let n = at / 64 + 9 in
    let front = bits_from n 0 ws in
    let rest = bits_from (41 - n) (0 + n) ws in
    let e : 41 ≡ n + (41 - n) = omega arith in
    let long = length_from n 0 ws in
    sym (ap (λ (m : ℕ). take 512 (drop at (bits_from m 0 ws))) e
    ∙ ap (λ (v : List ℕ). take 512 (drop at v)) (from_append n (41 - n) 0 ws)
    ∙ ap (take 512) (drop-append-le at front rest (omega arith))
    ∙ take-append-le 512 (drop at front) rest (omega (arith, length-drop at front)))

-- 512 more are put in behind those that wait
pub put_in : (at : ℕ) (bits more : List ℕ) → at ≡ length bits → at ≤ 2112 → length more ≤ 512
    → take at (padded_to 2624 bits) ++ (padded more ++ drop (at + 512) (padded_to 2624 bits)) ≡ padded_to 2624 (bits ++ more)
put_in at bits more e h few =
    let k = 2624 - length bits in
    let rest : drop (at + 512) (padded_to 2624 bits) ≡ zeros (k - 512)
    = ap (λ (n : ℕ). drop (n + 512) (padded_to 2624 bits)) e ∙ drop-append-add bits (zeros k) 512 ∙ drop-zeros 512 k in
    let z : 512 + (k - 512) - length more ≡ 2624 - length (bits ++ more) = omega (arith, length-append bits more) in
    ap₂ (λ (u v : List ℕ). u ++ (padded more ++ v)) (take_at bits (zeros k) at (sym e)) rest
    ∙ ap (λ (v : List ℕ). bits ++ v) (more_zeros 512 (k - 512) more few ∙ ap (λ (n : ℕ). more ++ zeros n) z)
    ∙ sym (append_assoc bits more (zeros (2624 - length (bits ++ more))))
