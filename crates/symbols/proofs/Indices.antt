-- Where the points stand in the grid: index 256 * symbol + k of the point at each place of the s order.
-- Assumes nothing.
use mathlib.Core.Path.{◌≡◌, sym, ap, subst, ◌∙◌}
use mathlib.Core.List.{List, ◌++◌}
use Prim.Native.Nat.{ℕ, suc, ◌+◌, ◌-◌, ◌*◌, ◌/◌, ◌%◌, ◌≤◌, ◌<◌}
use native.Mathlib.Decide.{dec_le}
use native.Mathlib.Omega.{arith}
use lib.ListN.{length, get_or}
use lib.Seq.{get_or-append-add}
use Rattle.symbols.specs.Grid.{carrier_of}
use Rattle.symbols.proofs.Placement.{carrier_of-zero, carrier_of_low, carrier_of_high, carrier_of_beyond}
use Rattle.symbols.specs.Grids.{index_of}

pub carrier_of-lt : (s : ℕ) → carrier_of s < 256
carrier_of-lt s = by (dec_le 1 s) (dec_le s 105) (dec_le s 210)
  where
    by : Dec (1 ≤ s) → Dec (s ≤ 105) → Dec (s ≤ 210) → carrier_of s < 256
    by (no l) m h = let z : s ≡ 0 = omega arith in omega (arith, ap carrier_of z ∙ carrier_of-zero)
    by (yes l) (yes m) h = omega (arith, carrier_of_low s l m)
    by (yes l) (no m) (yes h) = omega (arith, carrier_of_high s (omega arith) h)
    by (yes l) (no m) (no h) = omega (arith, carrier_of_beyond s (omega arith))

pub index_lt : (m place : ℕ) → place < 210 * m → index_of place < 256 * m
unfolding index_of
index_lt m place h = omega (arith, carrier_of-lt (suc (place % 210)))

-- the places of the first OFDM symbol, and those behind it
pub index_first : (place : ℕ) → place < 210 → index_of place ≡ carrier_of (suc place)
unfolding index_of
index_first place h =
    let r : place % 210 ≡ place = omega arith in
    let z : place / 210 ≡ 0 = omega arith in
    rw (r, z) (omega arith)

pub index_later : (place : ℕ) → index_of (210 + place) ≡ 256 + index_of place
unfolding index_of
index_later place =
    let r : (210 + place) % 210 ≡ place % 210 = omega arith in
    rw r (omega arith)

-- ---- the first n of a list, and what stands behind them

-- to show something of each index, show it of those below n and of those from n on
pub by_parts : (n : ℕ) (P : ℕ → Type 0) → ((k : ℕ) → k < n → P k) → ((k : ℕ) → P (n + k)) → (k : ℕ) → P k
by_parts n P first later k = by (dec_le n k)
  where
    by : Dec (n ≤ k) → P k
    by (yes h) = let e : n + (k - n) ≡ k = omega arith in subst P e (later (k - n))
    by (no h) = first k (omega arith)

pub get_or_behind : {A : Type 0} (xs ys : List A) (n k : ℕ) (d : A) → length xs ≡ n → get_or (xs ++ ys) (n + k) d ≡ get_or ys k d
get_or_behind xs ys n k d e = ap (λ (l : ℕ). get_or (xs ++ ys) (l + k) d) (sym e) ∙ get_or-append-add xs ys k d
