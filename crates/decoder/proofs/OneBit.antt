-- One bit of a packed word, set.
-- Assumes nothing.
use mathlib.Core.Path.{◌≡◌, refl, sym, ap, ◌∙◌}
use mathlib.Core.Logic.{◌≢◌}
use mathlib.Core.Bool.{Bool, cond}
use mathlib.Core.List.{List}
use Prim.Native.Nat.{ℕ, ◌-◌, ◌/◌, ◌%◌, ◌^◌, ◌<◌, max}
use native.Mathlib.Nat.{mod-lt, max-zero}
use native.Mathlib.Decide.{ℕ_discrete}
use native.Mathlib.Omega.{arith}
use lib.Bits.{bit_or}
use lib.Dec.{T, eqb, lit<}
use lib.ListN.{length, get_or, set, length-set}
use lib.Seq.{ext_get_or, get_or-set_same, get_or-set_other}
use borrow.Author.Tests.{ne_eqb}
use Rattle.ground.proofs.Tests.{all, all_at, all_equal}
use Rattle.planes.specs.Lanes.{bit_of}
use Rattle.planes.proofs.Digits.{by_bit}
use Rattle.planes.proofs.Vanishings.{bit_or_lem}
use Rattle.packed.specs.Packed.{bits512}
use Rattle.packed.proofs.Walks.{length_512, bit_at}

-- the digit k from the top
top : ℕ → ℕ
top k = 0x8000_0000_0000_0000 / 2 ^ k

here_test : T (all 64 (λ k. eqb (bit_of (top k) (63 - k)) 1))
unfolding bit_of top
here_test = tt

-- where j is not 63 - k
away : ℕ → ℕ → ℕ
away k j = cond (eqb j (63 - k)) 0 (bit_of (top k) j)

away_test : T (all 64 (λ k. all 64 (λ j. eqb (away k j) 0)))
unfolding bit_of top away
away_test = tt

top_here : (k : ℕ) → k < 64 → bit_of (top k) (63 - k) ≡ 1
top_here = all_equal 64 (λ k. bit_of (top k) (63 - k)) (λ k. 1) here_test

top_away : (k j : ℕ) → k < 64 → j < 64 → j ≢ 63 - k → bit_of (top k) j ≡ 0
unfolding away
top_away k j hk hj n =
    sym (ap (λ (b : Bool). cond b 0 (bit_of (top k) j)) (ne_eqb j (63 - k) n))
    ∙ all_equal 64 (away k) (λ j. 0) (all_at 64 (λ k. all 64 (λ j. eqb (away k j) 0)) away_test k hk) j hj

bit_here : (ws : List ℕ) (p : ℕ) → p < 512 → get_or (bits512 ws) p 0 ≡ bit_of (get_or ws (p / 64) 0) (63 - p % 64)
unfolding bit_of
bit_here = bit_at

module _ (ws : List ℕ) (p : ℕ) where
  abbrev marked : List ℕ
  marked = set ws (p / 64) (bit_or (get_or ws (p / 64) 0) (0x8000_0000_0000_0000 / 2 ^ (p % 64)))

  module _ (long : length ws ≡ 8) (h : p < 512) where
    inside : p / 64 < length ws
    inside = omega arith

    -- a digit of the machine word that is changed
    changed : (i : ℕ) → bit_of (get_or marked (p / 64) 0) i ≡ max (bit_of (get_or ws (p / 64) 0) i) (bit_of (top (p % 64)) i)
    unfolding top
    changed i = ap (λ (x : ℕ). bit_of x i) (get_or-set_same ws (p / 64) _ 0 inside) ∙ bit_or_lem (get_or ws (p / 64) 0) (top (p % 64)) i

    mark_same : get_or (bits512 marked) p 0 ≡ 1
    mark_same =
        bit_here marked p h ∙ changed (63 - p % 64) ∙ ap (max _) (top_here (p % 64) (mod-lt p (lit< tt)))
        ∙ by_bit (λ (d : ℕ). max d 1 ≡ 1) refl refl (get_or ws (p / 64) 0) (63 - p % 64)

    mark_other : (j : ℕ) → j < 512 → j ≢ p → get_or (bits512 marked) j 0 ≡ get_or (bits512 ws) j 0
    mark_other j k n = bit_here marked j k ∙ go (ℕ_discrete (j / 64) (p / 64)) ∙ sym (bit_here ws j k)
      where
        go : Dec (j / 64 ≡ p / 64) → bit_of (get_or marked (j / 64) 0) (63 - j % 64) ≡ bit_of (get_or ws (j / 64) 0) (63 - j % 64)
        go (no d) = ap (λ (x : ℕ). bit_of x (63 - j % 64)) (get_or-set_other ws (p / 64) (j / 64) _ 0 d)
        go (yes e) =
            let apart : 63 - j % 64 ≢ 63 - p % 64 = λ q. n (omega arith) in
            let low : 63 - j % 64 < 64 = omega arith in
            rw e (changed (63 - j % 64) ∙ ap (max _) (top_away (p % 64) (63 - j % 64) (mod-lt p (lit< tt)) low apart) ∙ max-zero _)

    bits_are : bits512 marked ≡ set (bits512 ws) p 1
    bits_are =
        let same : length (bits512 marked) ≡ length (set (bits512 ws) p 1) = length_512 marked ∙ sym (length-set (bits512 ws) p 1 ∙ length_512 ws) in
        ext_get_or 0 (bits512 marked) (set (bits512 ws) p 1) same (λ j k. at j (omega (arith, length_512 marked)) (ℕ_discrete j p))
      where
        at : (j : ℕ) → j < 512 → Dec (j ≡ p) → get_or (bits512 marked) j 0 ≡ get_or (set (bits512 ws) p 1) j 0
        at j k (yes e) = rw e (mark_same ∙ sym (get_or-set_same (bits512 ws) p 1 0 (omega (arith, length_512 ws))))
        at j k (no n) = mark_other j k n ∙ sym (get_or-set_other (bits512 ws) p j 1 0 n)

    pub bits_marked : (length marked ≡ 8) × (bits512 marked ≡ set (bits512 ws) p 1)
    bits_marked = (length-set ws (p / 64) _ ∙ long, bits_are)
