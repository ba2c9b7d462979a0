-- The zeros of a locator, and the places of a word that they stand for: bit x of the zeros is for the element x, and place p of n for a^(512-n+p).
-- The promise of decode rests on nothing here: it is what the private functions promise one another.
-- Assumes nothing.
use Rattle.std.specs.Prelude.{◌≡◌, ◌≢◌, cond, List, [], ◌∷◌, ◌++◌, ℕ, suc, ◌+◌, ◌-◌, ◌/◌, ◌%◌, ◌<◌, ◌≤◌, eqb, ltb, length, get_or, set}
use Rattle.field.specs.Field.{power}
use Rattle.planes.specs.Lanes.{bit_of}
use Rattle.packed.specs.Packed.{bits512}
use Rattle.answers.specs.Answers.{most_places, listed}
use Rattle.decoder.specs.declared.search.Flips.{Flips}

-- whether the element x is among the zeros
unfoldable pub root_at : List ℕ → ℕ → ℕ
root_at zeros x = bit_of (get_or zeros (x / 64) 0) (x % 64)

-- e is the exponent from 1 to 511 of v; 0 for 0
pub record Exponent (v e : ℕ) : Type 0 where
  pub most : e < 512
  pub zero : v ≡ 0 → e ≡ 0
  pub other : v ≢ 0 → (0 < e) × (power e ≡ v)

-- the places of a word of n bits are marked whose elements are below c and among the zeros
pub record Placed (zeros : List ℕ) (n c : ℕ) (marks : List ℕ) : Type 0 where
  pub long : length marks ≡ 8
  pub behind : (p : ℕ) → n ≤ p → get_or (bits512 marks) p 0 ≡ 0
  pub later : (p : ℕ) → p < n → c ≤ power (512 - n + p) → get_or (bits512 marks) p 0 ≡ 0
  pub done : (p : ℕ) → p < n → power (512 - n + p) < c → get_or (bits512 marks) p 0 ≡ root_at zeros (power (512 - n + p))

-- r zeros stand below the lowest 1 digit of x
pub record Below (x r : ℕ) : Type 0 where
  pub most : r < 64
  pub here : bit_of x r ≡ 1
  pub none : (i : ℕ) → i < r → bit_of x i ≡ 0

-- x has the bits of the zeros from base on
unfoldable pub HasRow : List ℕ → ℕ → ℕ → Type 0
HasRow zeros base x = (l : ℕ) → l < 64 → root_at zeros (base + l) ≡ bit_of x l

-- ---- marks, listed

-- the indices of the 1s, rising, the first element's being i
unfoldable pub ones_from : ℕ → List ℕ → List ℕ
ones_from i [] = []
ones_from i (b ∷ bs) = cond (eqb b 0) [] (i ∷ []) ++ ones_from (suc i) bs

abbrev pub ones_of : List ℕ → List ℕ
ones_of = ones_from 0

-- one place more
abbrev pub one_more : Flips → ℕ → Flips
one_more flips i = record { count = flips.count + 1; places = cond (ltb flips.count most_places) (set flips.places flips.count i) flips.places }

-- these too, one after the other
unfoldable pub all_more : Flips → List ℕ → Flips
all_more flips [] = flips
all_more flips (i ∷ is) = all_more (one_more flips i) is

-- these places: how many, and the list of them, where it has room for all
pub record Listing (places : List ℕ) (flips : Flips) : Type 0 where
  pub count : flips.count ≡ length places
  pub list : flips.count ≤ most_places → flips.places ≡ listed places
