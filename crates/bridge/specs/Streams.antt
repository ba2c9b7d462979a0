-- A stream's state as it stands in a caller's memory: 352 bytes.
-- Assumes nothing.
use Rattle.std.specs.Prelude.{◌≡◌, ◌≢◌, Bool, true, false, List, [], ◌∷◌, ◌++◌, ℕ, zero, suc, ◌+◌, ◌*◌, ◌/◌, ◌%◌, ◌<◌, length, get_or, take, drop, replicate}
use Rattle.symbols.specs.Grid.{symbol_points}
use Rattle.payload_b.specs.StreamB.{with_scheme, moving}
use Rattle.payload_b.specs.declared.stream.State.{State}
use Rattle.payload_b.specs.declared.stream.Moving.{Moving}
use Rattle.payload_b.specs.Courses.{told_of, course_of}

-- n elements, each by its index
unfoldable pub each : ℕ → (ℕ → ℕ) → List ℕ
each zero f = []
each (suc n) f = each n f ++ (f n ∷ [])

-- two lists are the same, or they are not
abbrev pub Same : Bool → List ℕ → List ℕ → Type 0
Same true v w = v ≡ w
Same false v w = v ≢ w

-- ---- a number in eight bytes, the first one the lowest

-- the bytes of a number, and of n numbers one behind the other
abbrev pub octets : ℕ → List ℕ
octets w =
    w % 256 ∷ w / 0x100 % 256 ∷ w / 0x10000 % 256 ∷ w / 0x1000000 % 256 ∷ w / 0x100000000 % 256 ∷ w / 0x10000000000 % 256 ∷ w / 0x1000000000000 % 256
    ∷ w / 0x100000000000000 % 256 ∷ []

unfoldable pub spread : ℕ → (ℕ → ℕ) → List ℕ
spread zero f = []
spread (suc n) f = spread n f ++ octets (f n)

-- the number of four bytes from this one on, and of eight
abbrev pub four_at : List ℕ → ℕ → ℕ
four_at bytes at = get_or bytes at 0 + 256 * (get_or bytes (at + 1) 0 + 256 * (get_or bytes (at + 2) 0 + 256 * get_or bytes (at + 3) 0))

abbrev pub number_at : List ℕ → ℕ → ℕ
number_at bytes at = four_at bytes at + 0x100000000 * four_at bytes (at + 4)

-- ---- the state: seventeen numbers, of which eight are the unfinished block; the scheme; and six zeros

abbrev pub nine_of : Moving → List ℕ
nine_of m =
    m.count ∷ m.size ∷ m.seen ∷ m.mended ∷ m.worst ∷ (told_of m.course).place ∷ (told_of m.course).number ∷ m.register ∷ m.mode ∷ []

abbrev pub numbers_of : Moving → List ℕ
numbers_of m = m.block ++ nine_of m

-- what is known of every value of the type
pub record Formed (m : Moving) : Type 0 where
  pub block_long : length m.block ≡ 8
  pub register : m.register < 65536
  pub mode : m.mode < 256

abbrev pub lent_of : State → List ℕ
lent_of s = spread 17 (λ k. get_or (numbers_of (moving s)) k 0) ++ (s.scheme ++ replicate 6 0)

-- the numbers in 352 bytes
abbrev pub numbers_in : List ℕ → List ℕ
numbers_in bytes = each 17 (λ k. number_at bytes (8 * k))

-- what moves of a state, by its numbers
abbrev pub moving_in : List ℕ → Moving
moving_in numbers = record {
  block = take 8 numbers;
  count = get_or numbers 8 0;
  mode = get_or numbers 16 0 % 256;
  size = get_or numbers 9 0;
  seen = get_or numbers 10 0;
  register = get_or numbers 15 0 % 65536;
  mended = get_or numbers 11 0;
  worst = get_or numbers 12 0;
  course = course_of (get_or numbers 14 0) (get_or numbers 13 0);
}

-- the state that bytes hold, if they hold one: then it is held in just this way
abbrev pub state_of : List ℕ → State
state_of bytes = with_scheme (take symbol_points (drop 136 bytes)) (moving_in (numbers_in bytes))
