-- What sending and receiving Payload A promise: for every mode, frame, grid and lent list, the answer and what the lent lists hold after.
-- Receiving is stated by what was sent: demand 3's sentence on Payload A is `Answered`, behind `noise_checked` (document 02, item 3). Its counts are `total` and
-- `worst` of the frame that goes up (item 8), and the protected bits that differ.
-- Assumes nothing.
use Rattle.std.specs.Prelude.{◌≡◌, ◌⊎◌, cond, ◌&&◌, List, ◌++◌, ℕ, ◌*◌, ◌<◌, eqb, leb, ltb, ℤ, length, drop}
use Rattle.answers.specs.Answers.{accepted, refused, of_written, of_burst, accepted_burst, refused_burst, Written}
use Rattle.answers.specs.Checks.{Checked, fails, passes}
use Rattle.answers.specs.declared.ReceivedBurst.{ReceivedBurst}
use Rattle.bits.specs.Places.{places}
use Rattle.bch.specs.Codes.{code3}
use Rattle.points.specs.Dqpsk.{dibits, stray_at}
use Rattle.symbols.specs.Grid.{sub_carriers, symbol_points}
use Rattle.symbols.specs.Grids.{received, index_of, first_occupied, room}
use Rattle.payload.specs.Wire.{Wire, block_at, total, worst, Fits, Mendable, FirstHopeless}
use Rattle.payload_a.specs.Segments.{row_bits, carried, protected_differing, most_differing}
use Rattle.payload_a.specs.CodedA.{bytes_a, coded_a, sent_i, sent_q}

-- the elements of I and of Q that two OFDM symbols take, and the points that they hold
abbrev pub elements_a : ℕ
elements_a = 2 * sub_carriers

abbrev pub point_count_a : ℕ
point_count_a = 2 * symbol_points

-- ---- send

abbrev pub send_checked : ℕ → List ℕ → List ℤ → List ℤ → Checked Unit
send_checked mode frame is qs =
    cond (leb mode 1) (cond (eqb (length frame) (bytes_a mode)) (cond (room elements_a is qs) (passes tt) (fails 3 0)) (fails 2 0)) (fails 1 0)

abbrev pub Sends : Checked Unit → ℕ → List ℕ → List ℤ → List ℤ → Written → List ℤ → List ℤ → Type 0
Sends (fails number place) mode frame is qs answer is' qs' = (of_written answer ≡ refused number place) × (is' ≡ is) × (qs' ≡ qs)
Sends (passes _) mode frame is qs answer is' qs' =
    (of_written answer ≡ accepted 0 0 0) × (is' ≡ sent_i mode frame ++ drop elements_a is) × (qs' ≡ sent_q mode frame ++ drop elements_a qs)

-- send A(mode, frame, I, Q): the answer, and I and Q after
abbrev pub SendingA : ℕ → List ℕ → List ℤ → List ℤ → Written → List ℤ → List ℤ → Type 0
SendingA mode frame is qs = Sends (send_checked mode frame is qs) mode frame is qs

-- ---- receive

-- check 11, of the bits received: more protected bits differ than may, and that is noise
abbrev pub noise_checked : List ℕ → Checked Unit
noise_checked bits = cond (ltb most_differing (protected_differing bits)) (fails 11 0) (passes tt)

-- checks 7 and 8 before it: 7 over both OFDM symbols before 8 begins
abbrev pub points_checked : List ℤ → List ℤ → Checked Unit
points_checked is qs =
    cond (ltb (first_occupied is qs 0 elements_a) elements_a) (fails 7 (first_occupied is qs 0 elements_a))
    (cond (ltb (stray_at (received 2 is qs)) point_count_a) (fails 8 (index_of (stray_at (received 2 is qs))))
    (noise_checked (dibits (received 2 is qs))))

-- checks 1 and 3 before them
abbrev pub receive_checked : ℕ → List ℤ → List ℤ → List ℕ → Checked Unit
receive_checked mode is qs area =
    cond (leb mode 1) (cond (room elements_a is qs && leb (bytes_a mode) (length area)) (points_checked is qs) (fails 3 0)) (fails 1 0)

-- a frame is sent as two blocks of 392 bits, in each of which 16 may differ; uncoded, its 784 bits count as two blocks in which none may
abbrev pub wire_a : ℕ → Wire
wire_a mode = record { bytes = bytes_a mode; blocks = 2; size = row_bits; mends = cond (eqb mode 0) 0 code3.t; sent = coded_a mode }

-- the places where the block sent for a frame, in the first half or the second, differs from the one received: indices in the half
abbrev pub places_in : ℕ → ℕ → List ℕ → List ℕ → List ℕ
places_in half mode frame bits = places (block_at row_bits half (coded_a mode frame)) (block_at row_bits half bits)

-- a frame that fits goes up, with the number of bits that differ, in all and in the worst block, the number of protected bits that differ, and the places of
-- each half
pub record Goes (mode : ℕ) (bits : List ℕ) (differing : ℕ) (area : List ℕ) (answer : ReceivedBurst) (area' : List ℕ) : Type 0 where
  pub frame : List ℕ
  pub fits : Fits (wire_a mode) bits frame
  pub tells : of_burst answer
      ≡ accepted_burst (total (wire_a mode) bits frame) differing (worst (wire_a mode) bits frame) (places_in 0 mode frame bits) (places_in 1 mode frame bits)
  pub left : area' ≡ frame ++ drop (bytes_a mode) area

-- a coded block has no codeword within 16, and every block before it has one
pub record Hopeless (mode : ℕ) (bits : List ℕ) (area : List ℕ) (answer : ReceivedBurst) (area' : List ℕ) : Type 0 where
  pub coded : mode ≡ 1
  pub block : ℕ
  pub hopeless : FirstHopeless code3 2 bits block
  pub tells : of_burst answer ≡ refused_burst 9 block
  pub left : area' ≡ area

-- each coded block has a codeword within 16, and still no frame fits: the check is wrong
pub record Wrong (mode : ℕ) (bits : List ℕ) (area : List ℕ) (answer : ReceivedBurst) (area' : List ℕ) : Type 0 where
  pub each : mode ≡ 1 → (b : ℕ) → b < 2 → Mendable code3 b bits
  pub none : (frame : List ℕ) → Fits (wire_a mode) bits frame → ⊥
  pub tells : of_burst answer ≡ refused_burst 10 0
  pub left : area' ≡ area

-- for 784 bits, and so many protected bits that differ
abbrev pub Answered : ℕ → List ℕ → ℕ → List ℕ → ReceivedBurst → List ℕ → Type 0
Answered mode bits differing area answer area' =
    Goes mode bits differing area answer area' ⊎ (Hopeless mode bits area answer area' ⊎ Wrong mode bits area answer area')

abbrev pub Receives : Checked Unit → ℕ → List ℕ → List ℕ → ReceivedBurst → List ℕ → Type 0
Receives (fails number place) mode bits area answer area' = (of_burst answer ≡ refused_burst number place) × (area' ≡ area)
Receives (passes _) mode bits area answer area' = Answered mode (carried bits) (protected_differing bits) area answer area'

-- receive A(mode, I, Q, area): the answer, with the places, and the area after
abbrev pub ReceivingA : ℕ → List ℤ → List ℤ → List ℕ → ReceivedBurst → List ℕ → Type 0
ReceivingA mode is qs area = Receives (receive_checked mode is qs area) mode (dibits (received 2 is qs)) area
