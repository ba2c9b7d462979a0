-- The grid of one OFDM symbol, equation 4: sub-carriers k from 0, constellation symbols s from 1.
use Rattle.std.specs.Prelude.{ℕ, ◌+◌, ◌-◌, Bool, cond, ◌&&◌, leb}
use Rattle.symbols.specs.declared.Carrier.{Carrier}
use Rattle.symbols.specs.declared.Carrier.TheVariants.{Holds, Empty}

-- the sub-carriers of an OFDM symbol, and the points that they hold
abbrev pub sub_carriers : ℕ
sub_carriers = 256

abbrev pub symbol_points : ℕ
symbol_points = 210

-- n is one of from..to
abbrev pub within : ℕ → ℕ → ℕ → Bool
within from to n = leb from n && leb n to

-- what sub-carrier k holds
unfoldable pub carrier_at : ℕ → Carrier
carrier_at k =
    cond (within 1 105 k) (Holds (k + 105))
    (cond (within 151 255 k) (Holds (k - 150))
    Empty)

-- the sub-carrier that holds s, and 0, which holds none, where none does
unfoldable pub carrier_of : ℕ → ℕ
carrier_of s =
    cond (within 1 105 s) (s + 150)
    (cond (within 106 210 s) (s - 105)
    0)
