-- 512 bits at the front of 41 machine words, and zeros behind.
-- Assumes nothing.
use mathlib.Core.Path.{◌≡◌, refl, sym, ap₂, ◌∙◌}
use mathlib.Core.List.{List, [], ◌∷◌, ◌++◌}
use Prim.Native.Nat.{ℕ, zero, suc, ◌≤◌}
use native.Mathlib.Omega.{arith}
use lib.ListN.{length, get_or, replicate, get_or-eq_default}
use Rattle.packed.specs.Packed.{bits_from, bits512}
use Rattle.packed.proofs.Walks.{from_append, from_same}
use Rattle.packed.proofs.Amid.{zeros, at_zeros, from_zeros}

zeros_behind : (v : List ℕ) (n i : ℕ) → get_or (v ++ zeros n) i 0 ≡ get_or v i 0
zeros_behind [] n i = at_zeros n i
zeros_behind (x ∷ v) n zero = refl
zeros_behind (x ∷ v) n (suc i) = zeros_behind v n i

pub begun : (front : List ℕ) → length front ≡ 8 → bits_from 41 0 (front ++ zeros 33) ≡ bits512 front ++ replicate 2112 0
unfolding bits512
begun front long =
    let run = front ++ zeros 33 in
    let none : (i : ℕ) → 8 ≤ i → get_or run i 0 ≡ get_or (zeros 41) i 0
    = λ i h. zeros_behind front 33 i ∙ get_or-eq_default front 0 (omega arith) ∙ sym (at_zeros 41 i) in
    from_append 8 33 0 run
    ∙ ap₂ ◌++◌ (from_same 8 0 run front (λ i _. zeros_behind front 33 i)) (from_same 33 8 run (zeros 41) none ∙ from_zeros 41 33 8)
