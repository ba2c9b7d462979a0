-- The two tables from which a product is read: the logarithm of each element, and the power at each sum of two logarithms.
-- 0 has no logarithm. Its entry, 1021, is above every sum of two logarithms, and there the table of powers has 0.
-- Assumes nothing.
use Rattle.std.specs.Prelude.{◌≡◌, true, false, Option, Some, None, List, [], ◌∷◌, ◌++◌, ℕ, zero, suc, ◌+◌, ◌<◌, min, eqb, get_or}
use Rattle.field.specs.Field.{element, shifted, power}

-- n entries, the first x, each a times the one before
unfoldable pub powers_from : ℕ → ℕ → List ℕ
powers_from zero x = []
powers_from (suc n) x = x ∷ powers_from n (shifted x)

-- a^0 to a^1020, and 0
unfoldable pub power_table : List ℕ
power_table = powers_from 1021 1 ++ (0 ∷ [])

-- where x stands first, counted from i; 1021 if nowhere
unfoldable pub place_from : ℕ → ℕ → List ℕ → ℕ
place_from x i [] = 1021
place_from x i (y ∷ ys) = elim (eqb y x) [ true ↦ i | false ↦ place_from x (suc i) ys ]

-- f at n numbers from i on
unfoldable pub listed : ℕ → ℕ → (ℕ → ℕ) → List ℕ
listed zero i f = []
listed (suc n) i f = f i ∷ listed n (suc i) f

-- for each element the i below 511 with a^i equal to it; for 0, 1021
unfoldable pub log_table : List ℕ
log_table = let ps = powers_from 511 1 in listed 512 0 (λ x. place_from x 0 ps)

-- what two tables give for a product
unfoldable pub product_from : List ℕ → List ℕ → ℕ → ℕ → ℕ
product_from logs powers x y = get_or powers (min (get_or logs (element x) 0 + get_or logs (element y) 0) 1021) 0

-- the logarithm of an element is the i below 511 with a^i equal to it; 0 has none
abbrev pub IsLogarithm : ℕ → Option ℕ → Type 0
IsLogarithm x None = element x ≡ 0
IsLogarithm x (Some i) = (i < 511) × (power i ≡ element x)
