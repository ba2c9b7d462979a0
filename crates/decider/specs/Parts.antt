-- What the functions of `decider` need and leave: of lists of levels, and of the parts of an OFDM symbol.
-- Assumes nothing.
use Rattle.std.specs.Prelude.{◌≡◌, List, ℕ, ◌*◌, ◌≤◌, ◌<◌, ℤ, pos, length, get_or}
use Rattle.points.specs.declared.Point.{Point}
use Rattle.points.specs.Constellations.{level_i, level_q}
use Rattle.nearest.specs.Nearest.{nearest}
use Rattle.symbols.specs.Grid.{sub_carriers, carrier_at}
use Rattle.symbols.specs.declared.Carrier.{Carrier}
use Rattle.symbols.specs.declared.Carrier.TheVariants.{Holds, Empty}

-- four lists have room for m OFDM symbols
pub record Enough (m : ℕ) (is qs out_i out_q : List ℤ) : Type 0 where
  pub few : m ≤ 256
  pub long_i : sub_carriers * m ≤ length is
  pub long_q : sub_carriers * m ≤ length qs
  pub long_out_i : sub_carriers * m ≤ length out_i
  pub long_out_q : sub_carriers * m ≤ length out_q

-- or hold n levels each
pub record Long (n : ℕ) (is qs out_i out_q : List ℤ) : Type 0 where
  pub long_i : length is ≡ n
  pub long_q : length qs ≡ n
  pub long_out_i : length out_i ≡ n
  pub long_out_q : length out_q ≡ n

-- one OFDM symbol, and half of its points
abbrev pub Symbol : List ℤ → List ℤ → List ℤ → List ℤ → Type 0
Symbol = Long sub_carriers

abbrev pub Half : List ℤ → List ℤ → List ℤ → List ℤ → Type 0
Half = Long 105

-- the first n of the levels of half an OFDM symbol are those of the points decided, each by its own table
pub record FirstDecided (level : Point → ℤ) (table : ℕ → List Point) (is qs : List ℤ) (n : ℕ) (out : List ℤ) : Type 0 where
  pub long : length out ≡ 105
  pub each : (s : ℕ) → s < n → get_or out s (pos 0) ≡ level (nearest (table s) (get_or is s (pos 0)) (get_or qs s (pos 0)))

-- all of both levels are
pub record HalfDecided (table : ℕ → List Point) (is qs out_i out_q : List ℤ) : Type 0 where
  pub all_i : FirstDecided level_i table is qs 105 out_i
  pub all_q : FirstDecided level_q table is qs 105 out_q

-- the levels of one OFDM symbol with its unavailable sub-carriers at 0, the others as they were
abbrev pub emptied : Carrier → ℤ → ℤ
emptied (Holds s) x = x
emptied Empty x = pos 0

pub record Cleared (levels cleared : List ℤ) : Type 0 where
  pub long : length cleared ≡ sub_carriers
  pub each : (k : ℕ) → k < sub_carriers → get_or cleared k (pos 0) ≡ emptied (carrier_at k) (get_or levels k (pos 0))
