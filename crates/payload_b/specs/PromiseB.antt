-- What sending and receiving Payload B promise: for every mode, length, frame, scheme, grid and lent list, the answer and what the lent lists hold after.
-- Receiving is stated by what was sent, block by block; its counts are `total` and `worst` of the frame that goes up (document 02, item 8).
-- Assumes nothing.
use Rattle.std.specs.Prelude.{◌≡◌, ◌⊎◌, ◌≢◌, cond, ◌&&◌, List, ◌++◌, ℕ, ◌*◌, ◌%◌, eqb, leb, ltb, ℤ, length, take, drop, replicate}
use Rattle.answers.specs.Answers.{accepted, refused, of_written, of_received_b, ReceivedB, Written}
use Rattle.answers.specs.Checks.{Checked, fails, passes}
use Rattle.points.specs.Constellations.{level_i, level_q}
use Rattle.symbols.specs.Grid.{sub_carriers, symbol_points}
use Rattle.symbols.specs.Grids.{received, index_of, first_occupied, room}
use Rattle.payload.specs.Scrambler.{start}
use Rattle.payload.specs.Wire.{Wire, total, worst, Fits, FirstHopeless}
use Rattle.payload_b.specs.CodedB.{block_bytes, block_bits, code_b, blocks_in, bits_for, coded_from, symbols_for, sent_b}
use Rattle.symbols.specs.Schemes.{bad_entry, repeated, stray_in, labelled}

-- ---- the checks 1, 2, 5 and 6, which both directions begin with

-- a frame that needs more OFDM symbols is refused
abbrev pub most_symbols : ℕ
most_symbols = 256

-- and then the checks that follow
abbrev pub planned : ℕ → ℕ → List ℕ → Checked Unit → Checked Unit
planned mode n scheme next =
    cond (leb mode 2)
    (cond (ltb 0 n && eqb (n % block_bytes mode) 0)
    (cond (eqb (length scheme) symbol_points)
    (cond (ltb (bad_entry scheme) symbol_points) (fails 5 (bad_entry scheme))
    (cond (leb (symbols_for mode n scheme) most_symbols) next (fails 6 0)))
    (fails 5 symbol_points))
    (fails 2 0))
    (fails 1 0)

-- ---- send

abbrev pub send_checked_b : ℕ → List ℕ → List ℕ → List ℤ → List ℤ → Checked Unit
send_checked_b mode frame scheme is qs =
    planned mode (length frame) scheme (cond (room (sub_carriers * symbols_for mode (length frame) scheme) is qs) (passes tt) (fails 3 0))

abbrev pub SendsB : Checked Unit → ℕ → List ℕ → List ℕ → List ℤ → List ℤ → Written → List ℤ → List ℤ → Type 0
SendsB (fails number place) mode frame scheme is qs answer is' qs' = (of_written answer ≡ refused number place) × (is' ≡ is) × (qs' ≡ qs)
SendsB (passes _) mode frame scheme is qs answer is' qs' =
    (of_written answer ≡ accepted 0 0 0)
    × (is' ≡ sent_b level_i mode frame scheme ++ drop (sub_carriers * symbols_for mode (length frame) scheme) is)
    × (qs' ≡ sent_b level_q mode frame scheme ++ drop (sub_carriers * symbols_for mode (length frame) scheme) qs)

-- send B(mode, frame, scheme, I, Q): the answer, and I and Q after
abbrev pub SendingB : ℕ → List ℕ → List ℕ → List ℤ → List ℤ → Written → List ℤ → List ℤ → Type 0
SendingB mode frame scheme is qs = SendsB (send_checked_b mode frame scheme is qs) mode frame scheme is qs

-- ---- receive

-- checks 7 and 8, over m OFDM symbols: 7 over all before 8 begins
abbrev pub points_checked_b : ℕ → List ℕ → List ℤ → List ℤ → Checked Unit
points_checked_b m scheme is qs =
    cond (ltb (first_occupied is qs 0 (sub_carriers * m)) (sub_carriers * m)) (fails 7 (first_occupied is qs 0 (sub_carriers * m)))
    (cond (ltb (stray_in (repeated m scheme) (received m is qs)) (symbol_points * m)) (fails 8 (index_of (stray_in (repeated m scheme) (received m is qs))))
    (passes tt))

-- check 3 before them
abbrev pub grid_checked : ℕ → ℕ → List ℕ → List ℤ → List ℤ → List ℕ → Checked Unit
grid_checked m n scheme is qs area = cond (room (sub_carriers * m) is qs && leb n (length area)) (points_checked_b m scheme is qs) (fails 3 0)

abbrev pub receive_checked_b : ℕ → ℕ → List ℕ → List ℤ → List ℤ → List ℕ → Checked Unit
receive_checked_b mode n scheme is qs area = planned mode n scheme (grid_checked (symbols_for mode n scheme) n scheme is qs area)

-- the coded bits received, the fill left out
abbrev pub bits_received : ℕ → ℕ → List ℕ → List ℤ → List ℤ → List ℕ
bits_received mode n scheme is qs =
    take (bits_for mode n) (labelled (repeated (symbols_for mode n scheme) scheme) (received (symbols_for mode n scheme) is qs))

-- how many bits are mended in each block
abbrev pub mends_b : ℕ → ℕ
mends_b mode = cond (eqb mode 0) 0 (code_b mode).t

-- n bytes are sent, from a register, as blocks of the mode's code, in each of which t bits may differ; uncoded, each byte is a block in which none may
abbrev pub wire_from : ℕ → ℕ → ℕ → Wire
wire_from mode register n =
    record { bytes = n; blocks = blocks_in mode n; size = block_bits mode; mends = mends_b mode; sent = coded_from mode register }

-- and so is a frame of n bytes
abbrev pub wire_b : ℕ → ℕ → Wire
wire_b mode n = wire_from mode start n

-- a frame that fits goes up, with the number of bits that differ, in all and in the worst block
pub record GoesB (mode n : ℕ) (bits area : List ℕ) (answer : ReceivedB) (area' : List ℕ) : Type 0 where
  pub frame : List ℕ
  pub fits : Fits (wire_b mode n) bits frame
  pub tells : of_received_b answer ≡ accepted (total (wire_b mode n) bits frame) 0 (worst (wire_b mode n) bits frame)
  pub left : area' ≡ frame ++ drop n area

-- a block has no codeword within t, and every block before it has one: the frame's area is all zero, and nothing beyond it is touched
pub record HopelessB (mode n : ℕ) (bits area : List ℕ) (answer : ReceivedB) (area' : List ℕ) : Type 0 where
  pub coded : mode ≢ 0
  pub block : ℕ
  pub hopeless : FirstHopeless (code_b mode) (blocks_in mode n) bits block
  pub tells : of_received_b answer ≡ refused 9 block
  pub left : area' ≡ replicate n 0 ++ drop n area

abbrev pub ReceivesB : Checked Unit → ℕ → ℕ → List ℕ → List ℕ → ReceivedB → List ℕ → Type 0
ReceivesB (fails number place) mode n bits area answer area' = (of_received_b answer ≡ refused number place) × (area' ≡ area)
ReceivesB (passes _) mode n bits area answer area' = GoesB mode n bits area answer area' ⊎ HopelessB mode n bits area answer area'

-- receive B(mode, frame length, scheme, I, Q, area): the answer, and the area after
abbrev pub ReceivingB : ℕ → ℕ → List ℕ → List ℤ → List ℤ → List ℕ → ReceivedB → List ℕ → Type 0
ReceivingB mode n scheme is qs area =
    ReceivesB (receive_checked_b mode n scheme is qs area) mode n (bits_received mode n scheme is qs) area
