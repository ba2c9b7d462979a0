-- A stream of Payload B step after step, each with the area as the step before left it: what is said of it after k steps, however many there are.
-- Assumes nothing.
use Rattle.std.specs.Prelude.{◌≡◌, ◌⊎◌, ◌≢◌, List, ◌++◌, ℕ, suc, ◌+◌, ◌*◌, ◌≤◌, ◌<◌, ℤ, take, drop, replicate}
use Rattle.answers.specs.Answers.{accepted, refused, because, of_received_b, ReceivedB, counted_b}
use Rattle.answers.specs.Checks.{fails, passes}
use Rattle.answers.specs.declared.Refusal.{Refusal}
use Rattle.packed.specs.Packed.{padded, words_of}
use Rattle.symbols.specs.Grid.{sub_carriers}
use Rattle.symbols.specs.Grids.{received}
use Rattle.symbols.specs.Schemes.{repeated, labelled}
use Rattle.payload.specs.Scrambler.{start, register_after}
use Rattle.payload.specs.Wire.{Wire, total, worst, Fits, FirstHopeless}
use Rattle.payload_b.specs.CodedB.{block_bytes, block_bits, code_b}
use Rattle.payload_b.specs.PromiseB.{points_checked_b, wire_b}
use Rattle.payload_b.specs.StreamB.{blocks_after, wait_after, OpeningB, SteppingB}
use Rattle.payload_b.specs.declared.stream.State.{State}
use Rattle.payload_b.specs.declared.stream.Course.TheVariants as course

-- ---- many steps

-- the OFDM symbol k of a grid
abbrev pub symbol_at : ℕ → List ℤ → List ℤ
symbol_at k levels = take sub_carriers (drop (sub_carriers * k) levels)

-- k steps, each with its OFDM symbol of the grid: the last answer, and state and area after. Before the first step the answer is that nothing is mended
pub data Streamed (is qs : List ℤ) (area : List ℕ) (opened : State) : ℕ → ReceivedB → State → List ℕ → Type 0 where
  unseen : Streamed is qs area opened 0 (counted_b 0 0) opened area
  seen : {k : ℕ} {r : ReceivedB} {s : State} {a : List ℕ} {r' : ReceivedB} {s' : State} {a' : List ℕ} → Streamed is qs area opened k r s a
      → SteppingB s (symbol_at k is) (symbol_at k qs) a r' s' a' → Streamed is qs area opened (suc k) r' s' a'

-- a state that an opening and steps give, whatever OFDM symbols and areas they were lent
pub data Given : State → Type 0 where
  opened : (mode n : ℕ) (scheme : List ℕ) {s : State} → OpeningB mode n scheme s → Given s
  stepped : {s s' : State} (is qs : List ℤ) (area area' : List ℕ) (r : ReceivedB) → Given s → SteppingB s is qs area r s' area' → Given s'

-- ---- after k steps

-- the bits of the first k OFDM symbols, and of these the blocks that are complete
abbrev pub bits_seen : List ℕ → List ℤ → List ℤ → ℕ → List ℕ
bits_seen scheme is qs k = labelled (repeated k scheme) (received k is qs)

abbrev pub bits_complete : ℕ → ℕ → List ℕ → List ℤ → List ℤ → ℕ → List ℕ
bits_complete mode n scheme is qs k = take (block_bits mode * blocks_after mode n scheme k) (bits_seen scheme is qs k)

-- what was sent for them
abbrev pub wire_after : ℕ → ℕ → List ℕ → ℕ → Wire
wire_after mode n scheme k = wire_b mode (block_bytes mode * blocks_after mode n scheme k)

-- the state, where these bytes of the frame fit
abbrev pub state_after : ℕ → ℕ → List ℕ → List ℤ → List ℤ → ℕ → List ℕ → State
state_after mode n scheme is qs k bytes = record {
  scheme = scheme;
  block = words_of 8 (padded (take (wait_after mode n scheme k) (drop (block_bits mode * blocks_after mode n scheme k) (bits_seen scheme is qs k))));
  count = wait_after mode n scheme k;
  mode = mode;
  size = n;
  seen = k;
  register = register_after (8 * (block_bytes mode * blocks_after mode n scheme k)) start;
  mended = total (wire_after mode n scheme k) (bits_complete mode n scheme is qs k) bytes;
  worst = worst (wire_after mode n scheme k) (bits_complete mode n scheme is qs k) bytes;
  course = course.Open;
}

-- all are accepted: the area holds the bytes of the blocks complete so far, the rest as it was, and the counts are over those blocks
pub record SoFar (mode n : ℕ) (scheme : List ℕ) (is qs : List ℤ) (area : List ℕ) (k : ℕ) (r : ReceivedB) (s : State) (a : List ℕ) : Type 0 where
  pub bytes : List ℕ
  pub fits : Fits (wire_after mode n scheme k) (bits_complete mode n scheme is qs k) bytes
  pub state : s ≡ state_after mode n scheme is qs k bytes
  pub tells : of_received_b r ≡ accepted s.mended 0 s.worst
  pub left : a ≡ bytes ++ drop (block_bytes mode * blocks_after mode n scheme k) area
  pub clear : points_checked_b k scheme is qs ≡ passes tt

-- 7 or 8 refuses the OFDM symbol j, with its own index, and none before it
pub record PointRefused (scheme : List ℕ) (is qs : List ℤ) (j number place : ℕ) : Type 0 where
  pub index : ℕ
  pub found : points_checked_b 1 scheme (symbol_at j is) (symbol_at j qs) ≡ fails number index
  pub placed : place ≡ sub_carriers * j + index

-- 9 does: of the blocks that it completes one has no codeword within t, and every block before that has one; by 7 and 8 it passes
pub record BlockRefused (mode n : ℕ) (scheme : List ℕ) (is qs : List ℤ) (j number place : ℕ) : Type 0 where
  pub coded : mode ≢ 0
  pub clear : points_checked_b (suc j) scheme is qs ≡ passes tt
  pub nine : number ≡ 9
  pub late : blocks_after mode n scheme j ≤ place
  pub hopeless : FirstHopeless (code_b mode) (blocks_after mode n scheme (suc j)) (bits_complete mode n scheme is qs (suc j)) place

-- one is refused, the first that is: its refusal is repeated ever after, and the area is as that step left it, zero over the whole frame
pub record FirstRefused (mode n : ℕ) (scheme : List ℕ) (is qs : List ℤ) (area : List ℕ) (k : ℕ) (r : ReceivedB) (s : State) (a : List ℕ) : Type 0 where
  pub j : ℕ
  pub early : j < k
  pub bytes : List ℕ
  pub fits : Fits (wire_after mode n scheme j) (bits_complete mode n scheme is qs j) bytes
  pub clear : points_checked_b j scheme is qs ≡ passes tt
  pub number : ℕ
  pub place : ℕ
  pub first : PointRefused scheme is qs j number place ⊎ BlockRefused mode n scheme is qs j number place
  pub why : Refusal
  pub told : because why ≡ refused number place
  pub course : s.course ≡ course.Refused why
  pub tells : of_received_b r ≡ refused number place
  pub left : a ≡ replicate n 0 ++ drop n area
