-- What the quick look says where it finds nothing wrong (src/quick.rt): of sizes, by the entries of a scheme, and of one OFDM symbol.
-- Assumes nothing.
use Rattle.std.specs.Prelude.{◌≡◌, Bool, false, List, ℕ, suc, ◌+◌, ◌%◌, ◌≤◌, ◌<◌, ℤ, pos, nat_abs, length, get_or}
use Rattle.points.specs.Sizes.{most_of, odd_of}
use Rattle.symbols.specs.declared.Carrier.TheVariants.{Empty}
use Rattle.symbols.specs.Grid.{sub_carriers, symbol_points, carrier_at, carrier_of}

-- the sizes e and f of two levels, as those of a point of n bits
pub record Passed (n e f : ℕ) : Type 0 where
  pub low_e : e ≤ most_of n
  pub low_f : f ≤ most_of n
  pub odd_e : e % 2 ≡ odd_of n
  pub odd_f : f % 2 ≡ odd_of n
  pub no_hole : e % 3 ≡ 0 → f % 3 ≡ 0 → n % 2 ≡ 0

-- those of the levels i and q, by entry s of a scheme
abbrev pub PassedBy : List ℕ → ℕ → ℤ → ℤ → Type 0
PassedBy scheme s i q = Passed (get_or scheme s 0) (nat_abs i) (nat_abs q)

-- all levels are 0
abbrev pub Zeros : List ℤ → Type 0
Zeros levels = (k : ℕ) → k < length levels → get_or levels k (pos 0) ≡ pos 0

-- those of the sub-carriers from one to before another
abbrev pub EmptyFrom : ℕ → ℕ → List ℤ → List ℤ → Type 0
EmptyFrom from end is qs = (k : ℕ) → from ≤ k → k < end → (get_or is k (pos 0) ≡ pos 0) × (get_or qs k (pos 0) ≡ pos 0)

-- one OFDM symbol: its unavailable sub-carriers are empty, and P holds of the levels of each of its points
pub record Seen (P : ℕ → ℤ → ℤ → Type 0) (is qs : List ℤ) : Type 0 where
  pub empty : (k : ℕ) → k < sub_carriers → carrier_at k ≡ Empty → (get_or is k (pos 0) ≡ pos 0) × (get_or qs k (pos 0) ≡ pos 0)
  pub held : (s : ℕ) → s < symbol_points → P s (get_or is (carrier_of (suc s)) (pos 0)) (get_or qs (carrier_of (suc s)) (pos 0))

-- the sizes of two levels are 0 and 1, as those of the points of DQPSK
abbrev pub Single : ℕ → ℤ → ℤ → Type 0
Single s i q = nat_abs i + nat_abs q ≡ 1

-- a point is not stray, by a way to read points (specs/Faults)
abbrev pub Legal : (ℕ → ℤ → ℤ → Bool) → ℕ → ℤ → ℤ → Type 0
Legal strays s i q = strays s i q ≡ false
