-- How the code evaluates a word's remainder, eight digits at a time.
-- The promise of decode rests on nothing here: it is what the private functions promise one another.
-- Assumes nothing.
use Rattle.std.specs.Prelude.{◌≡◌, List, ◌++◌, ℕ, suc, ◌+◌, ◌*◌, ◌<◌, length, get_or, replicate}
use Rattle.algebra.proofs.Powers.{pow}
use Rattle.field.proofs.Elements.{gf512, element_of}
use Rattle.field.proofs.Values.{a, series, value, value_from}
use Rattle.bits.specs.Words.{digits}

-- a^(2 l + 1)
abbrev pub odd_power : ℕ → gf512.Element
odd_power l = pow gf512 a (2 * l + 1)

-- half of the table: the values at odd powers of a of four digits with k zeros behind, from the entry `from` on, sixteen to each
abbrev pub Half : ℕ → ℕ → List ℕ → Type 0
Half k from table = (v l : ℕ) → v < 16 → l < 16 → element_of (get_or table (from + v * 16 + l) 0) ≡ value (odd_power l) (digits 4 v ++ replicate k 0)

-- the rule of the table
pub record DigitValues (table : List ℕ) : Type 0 where
  pub low : Half 0 0 table
  pub high : Half 4 256 table

-- each sum has taken in these coefficients by Horner's rule, the sum l at a^(2 l + 1)
pub record Taken (bits old new : List ℕ) : Type 0 where
  pub long : length new ≡ length old
  pub each : (l : ℕ) → l < length old → series new l ≡ value_from (series old l) (odd_power l) bits

-- the first t entries are the values at a, a^3, ..
abbrev pub Odds : List ℕ → ℕ → List ℕ → Type 0
Odds bits t s = (l : ℕ) → l < t → series s l ≡ value (odd_power l) bits

-- the first `count` entries are the values at a, a^2, ..
abbrev pub Syndromes : List ℕ → ℕ → List ℕ → Type 0
Syndromes bits count s = (i : ℕ) → i < count → series s i ≡ value (pow gf512 a (suc i)) bits
