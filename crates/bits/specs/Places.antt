-- Where two words differ (document 02, item 10): the places, and a word with bits flipped at places.
-- Assumes nothing.
use Rattle.std.specs.Prelude.{cond, List, [], ◌∷◌, ◌++◌, ℕ, suc, ◌-◌, eqb, get_or, set}

-- the indices at which two words differ, rising, the first element's being i; where one ends, the other's further ones
unfoldable pub places_from : ℕ → List ℕ → List ℕ → List ℕ
places_from i [] [] = []
places_from i [] (w ∷ ws) = i ∷ places_from (suc i) [] ws
places_from i (v ∷ vs) [] = i ∷ places_from (suc i) vs []
places_from i (v ∷ vs) (w ∷ ws) = cond (eqb v w) [] (i ∷ []) ++ places_from (suc i) vs ws

abbrev pub places : List ℕ → List ℕ → List ℕ
places = places_from 0

-- a word of bits, with those at these places flipped
unfoldable pub flipped_at : List ℕ → List ℕ → List ℕ
flipped_at [] word = word
flipped_at (p ∷ ps) word = flipped_at ps (set word p (1 - get_or word p 0))
