-- The two constants are the tables of specs/Tables, entry by entry, the second with more zeros behind: by computation.
-- Assumes nothing.
use mathlib.Core.Path.{◌≡◌, refl, ap, ◌∙◌}
use mathlib.Core.List.{List, ◌++◌}
use Prim.Native.Nat.{ℕ, zero, suc, ◌-◌, ◌<◌, min}
use native.Mathlib.Decide.{dec_lt}
use native.Mathlib.Omega.{arith}
use lib.ListN.{length, get_or, take, replicate, get_or-append}
use lib.Seq.{get_or-append_right, take_at}
use Rattle.field.specs.Field.{shifted}
use Rattle.field.specs.Tables.{log_table, power_table, listed, place_from, powers_from}
use Rattle.field.specs.declared.tables.TheConstants.{LOGARITHMS, POWERS}
use Rattle.field.proofs.Powers.{power_table-length, power_table_last}

pub logarithms_are : LOGARITHMS ≡ log_table
unfolding log_table listed place_from powers_from shifted
logarithms_are = refl {a = log_table}

powers_are : POWERS ≡ power_table ++ replicate 1021 0
unfolding power_table powers_from shifted
powers_are = refl {a = power_table ++ replicate 1021 0}

pub powers_front : take 1022 POWERS ≡ power_table
powers_front = ap (take 1022) powers_are ∙ take_at power_table (replicate 1021 0) 1022 power_table-length

zeros_at : (n i : ℕ) → ◌≡◌ {A = ℕ} (get_or (replicate n 0) i 0) 0
zeros_at zero i = refl
zeros_at (suc n) zero = refl
zeros_at (suc n) (suc i) = zeros_at n i

-- every place behind the last of power_table holds 0, as the last does
pub powers_at : (i : ℕ) → get_or POWERS i 0 ≡ get_or power_table (min i 1021) 0
powers_at i = ap (λ (l : List ℕ). get_or l i 0) powers_are ∙ go (dec_lt i 1022)
  where
    go : Dec (i < 1022) → get_or (power_table ++ replicate 1021 0) i 0 ≡ get_or power_table (min i 1021) 0
    go (yes h) =
        let e : min i 1021 ≡ i = omega arith in
        rw e (get_or-append power_table (replicate 1021 0) 0 i (omega (arith, power_table-length)))
    go (no h) =
        let e : min i 1021 ≡ 1021 = omega arith in
        rw (e, power_table_last)
        (get_or-append_right power_table (replicate 1021 0) i 0 (omega (arith, power_table-length)) ∙ zeros_at 1021 (i - length power_table))
