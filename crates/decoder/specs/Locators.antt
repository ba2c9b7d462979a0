-- How the code holds a locator and the values of polynomials, and what it does with them: numbers that stand for elements of GF(512).
-- The promise of decode rests on nothing here: it is what the private functions promise one another.
-- Assumes nothing.
use Rattle.std.specs.Prelude.{◌≡◌, ◌≢◌, List, ℕ, suc, ◌+◌, ◌-◌, ◌<◌, ◌≤◌, length, get_or}
use Rattle.algebra.proofs.Powers.{pow}
use Rattle.algebra.proofs.Polynomials.{ev}
use Rattle.algebra.proofs.Newtons.{Paired}
use Rattle.field.proofs.Elements.{gf512, element_of}
use Rattle.field.proofs.Values.{a, series}
use Rattle.answers.specs.Answers.{most_places, listed}
use Rattle.bits.specs.Words.{differ}
use Rattle.bits.specs.Places.{places}
use Rattle.decoder.specs.declared.locator.State.{State}
use Rattle.decoder.specs.declared.search.Flips.{Flips}

-- the entries behind `last` are 0
abbrev pub Ends : List ℕ → ℕ → Type 0
Ends l last = (i : ℕ) → last < i → series l i ≡ gf512.zero

-- the value of the first n terms of the locator at a^(from + p)
abbrev pub value_at : List ℕ → ℕ → ℕ → ℕ → gf512.Element
value_at locator n from p = ev gf512 n (series locator) (pow gf512 a (from + p))

-- in the first n pairs of syndromes the second one, at 2 i + 1, is the square of that at i: so it is for a binary word
abbrev pub Squared : List ℕ → ℕ → Type 0
Squared s n = (i : ℕ) → i < n → series s (suc (i + i)) ≡ gf512.mul (series s i) (series s i)

-- the state after m pairs of syndromes
pub record After (s : List ℕ) (m : ℕ) (q : State) : Type 0 where
  pub found : Paired gf512 (series s) m (series q.locator) (series q.other) q.len (element_of q.b)

-- `copy` is the word, flipped where the locator vanishes; the number of those places, and the list of them, where it has room for all
pub record Turned (locator : List ℕ) (len : ℕ) (word copy : List ℕ) (flips : Flips) : Type 0 where
  pub long : length copy ≡ length word
  pub flipped : (i : ℕ) → i < length word → value_at locator (suc len) (512 - length word) i ≡ gf512.zero → get_or copy i 0 ≡ 1 - get_or word i 0
  pub kept : (i : ℕ) → i < length word → value_at locator (suc len) (512 - length word) i ≢ gf512.zero → get_or copy i 0 ≡ get_or word i 0
  pub count : flips.count ≡ differ copy word
  pub list : flips.count ≤ most_places → flips.places ≡ listed (places copy word)
