-- The grid: what each part of it holds, and that sub-carrier and constellation symbol find each other.
-- Assumes nothing.
use mathlib.Core.Path.{◌≡◌, refl, ap, subst, ◌∙◌}
use mathlib.Core.Bool.{Bool, true, false, ◌&&◌}
use Prim.Native.Nat.{ℕ, ◌+◌, ◌-◌, ◌≤◌, ◌<◌}
use native.Mathlib.Decide.{dec_le}
use native.Mathlib.Omega.{arith}
use lib.Dec.{T, eqb, leb, eqb→eq, leb→le}
use borrow.Author.Tests.{le-leb, lt-leb}
use Rattle.symbols.specs.declared.Carrier.{Carrier}
use Rattle.symbols.specs.declared.Carrier.TheVariants.{Holds, Empty}
use Rattle.symbols.specs.Grid.{within, carrier_at, carrier_of}
use Rattle.ground.proofs.Tests.{all, all_at, both}

inside : (from to n : ℕ) → from ≤ n → n ≤ to → within from to n ≡ true
inside from to n a b = rw (le-leb from n a, le-leb n to b)

below : (from to n : ℕ) → n < from → within from to n ≡ false
below from to n a = rw (lt-leb from n a)

above : (from to n : ℕ) → to < n → within from to n ≡ false
above from to n a = rw (lt-leb n to a) (and_false (leb from n))
  where
    and_false : (b : Bool) → b && false ≡ false
    and_false true = refl
    and_false false = refl

-- ---- what the parts of the grid hold

pub carrier_zero : carrier_at 0 ≡ Empty
unfolding carrier_at
carrier_zero = refl

pub carrier_low : (k : ℕ) → 1 ≤ k → k ≤ 105 → carrier_at k ≡ Holds (k + 105)
unfolding carrier_at
carrier_low k a b = rw (inside 1 105 k a b)

pub carrier_middle : (k : ℕ) → 106 ≤ k → k ≤ 150 → carrier_at k ≡ Empty
unfolding carrier_at
carrier_middle k a b = rw (above 1 105 k a, below 151 255 k (omega arith))

pub carrier_high : (k : ℕ) → 151 ≤ k → k ≤ 255 → carrier_at k ≡ Holds (k - 150)
unfolding carrier_at
carrier_high k a b = rw (above 1 105 k (omega arith), inside 151 255 k a b)

pub carrier_beyond : (k : ℕ) → 256 ≤ k → carrier_at k ≡ Empty
unfolding carrier_at
carrier_beyond k a = rw (above 1 105 k (omega arith), above 151 255 k a)

-- ---- where the symbols stand

pub carrier_of-zero : carrier_of 0 ≡ 0
unfolding carrier_of
carrier_of-zero = refl

pub carrier_of_low : (s : ℕ) → 1 ≤ s → s ≤ 105 → carrier_of s ≡ s + 150
unfolding carrier_of
carrier_of_low s a b = rw (inside 1 105 s a b)

pub carrier_of_high : (s : ℕ) → 106 ≤ s → s ≤ 210 → carrier_of s ≡ s - 105
unfolding carrier_of
carrier_of_high s a b = rw (above 1 105 s a, inside 106 210 s a b)

pub carrier_of_beyond : (s : ℕ) → 211 ≤ s → carrier_of s ≡ 0
unfolding carrier_of
carrier_of_beyond s a = rw (above 1 105 s (omega arith), above 106 210 s a)

-- ---- there and back

-- the symbol that sub-carrier k holds has its place at k
abbrev found : ℕ → Carrier → Bool
found k (Holds s) = eqb (carrier_of s) k && within 1 210 s
found k Empty = true

is_found : (k s : ℕ) → T (found k (Holds s)) → (carrier_of s ≡ k) × (1 ≤ s) × (s ≤ 210)
is_found k s t =
    let a = both (eqb (carrier_of s) k) (within 1 210 s) t in
    let b = both (leb 1 s) (leb s 210) a.1 in
    (eqb→eq (carrier_of s) k a.0, leb→le 1 s b.0, leb→le s 210 b.1)

pub carrier_place : (s : ℕ) → 1 ≤ s → s ≤ 210 → carrier_at (carrier_of s) ≡ Holds s
carrier_place s a b = by (dec_le s 105)
  where
    by : Dec (s ≤ 105) → carrier_at (carrier_of s) ≡ Holds s
    by (yes h) = ap carrier_at (carrier_of_low s a h) ∙ carrier_high (s + 150) (omega arith) (omega arith) ∙ ap Holds (omega arith)
    by (no h) = ap carrier_at (carrier_of_high s (omega arith) b) ∙ carrier_low (s - 105) (omega arith) (omega arith) ∙ ap Holds (omega arith)

found_test : T (all 256 (λ k. found k (carrier_at k)))
unfolding carrier_at carrier_of
found_test = tt

pub place_carrier : (k s : ℕ) → carrier_at k ≡ Holds s → (carrier_of s ≡ k) × (1 ≤ s) × (s ≤ 210)
place_carrier k s e = by (dec_le 256 k)
  where
    by : Dec (256 ≤ k) → (carrier_of s ≡ k) × (1 ≤ s) × (s ≤ 210)
    by (yes h) = let z : ◌≡◌ {A = ℕ} 0 1 = cc (carrier_beyond k h) in absurd (omega arith)
    by (no h) = is_found k s (subst (λ (c : Carrier). T (found k c)) e (all_at 256 (λ k. found k (carrier_at k)) found_test k (omega arith)))
