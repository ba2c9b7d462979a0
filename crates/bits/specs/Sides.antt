-- Elements side by side in a number, eight binary digits for each.
-- Assumes nothing.
use Rattle.std.specs.Prelude.{List, [], ◌∷◌, ℕ, ◌+◌, ◌*◌}

-- behind what stands there already
unfoldable pub beside_from : ℕ → List ℕ → ℕ
beside_from a [] = a
beside_from a (x ∷ xs) = beside_from (a * 256 + x) xs

-- the first stands highest
abbrev pub beside : List ℕ → ℕ
beside xs = beside_from 0 xs
