-- What an exported call promises: the promise of the codes or of a payload, and what the answer tells as a caller in C reads it.
-- Assumes nothing.
use Rattle.std.specs.Prelude.{◌≡◌, ◌⊎◌, ◌≢◌, List, ℕ, ℤ}
use Rattle.answers.specs.Answers.{refused, of_written, of_decoded, of_received_a, of_received_b, ReceivedB, Written}
use Rattle.answers.specs.Checks.{Checked, fails, passes}
use Rattle.answers.specs.declared.Told.{Told}
use Rattle.answers.specs.declared.DecodedWord.{DecodedWord}
use Rattle.answers.specs.declared.ReceivedBurst.{ReceivedBurst}
use Rattle.bch.specs.Promise.{Encoding, Decoding}
use Rattle.payload_a.specs.PromiseA.{SendingA, ReceivingA}
use Rattle.payload_b.specs.CodedB.{symbols_for}
use Rattle.payload_b.specs.PromiseB.{planned, SendingB, ReceivingB}
use Rattle.payload_b.specs.StreamB.{OpeningB, SteppingB}
use Rattle.payload_b.specs.declared.stream.State.{State}
use Rattle.payload_b.specs.Courses.{told_of}
use Rattle.decisions.specs.Deciding.{DecidingA, DecidingB}
use Rattle.bridge.specs.Streams.{lent_of, state_of}
use Rattle.bridge.specs.declared.Answer.{Answer}
use Rattle.bridge.specs.declared.Received.{Received}
use Rattle.bridge.specs.declared.Needed.{Needed}

-- what an answer tells, with one count
abbrev pub answer_of : Told → Answer
answer_of t = record { number = t.number; mended = t.mended; place = t.place }

-- and with all
abbrev pub received_of : Told → Received
received_of t = record { number = t.number; mended = t.mended; protected = t.protected; worst = t.worst; place = t.place }

-- what the checks found, and the OFDM symbols needed where all pass
abbrev pub needed_of : Checked Unit → ℕ → Needed
needed_of (fails number place) symbols = record { number = number; symbols = 0; place = place }
needed_of (passes _) symbols = record { number = 0; symbols = symbols; place = 0 }

-- ortkaveq_encode(c, word, out): the answer, and `out` after
pub record EncodeCall (c : ℕ) (word out : List ℕ) (r : Answer) (after : List ℕ) : Type 0 where
  pub answer : Written
  pub promise : Encoding c word out answer after
  pub told : r ≡ answer_of (of_written answer)

-- ortkaveq_decode(c, word, out, places): the answer, and `out` and `places` after
pub record DecodeCall (c : ℕ) (word out : List ℕ) (r : Answer) (after places : List ℕ) : Type 0 where
  pub answer : DecodedWord
  pub promise : Decoding c word out answer after
  pub told : r ≡ answer_of (of_decoded answer.answer)
  pub list : places ≡ answer.places

-- ortkaveq_send_a(mode, frame, i, q): the answer, and `i` and `q` after
pub record SendACall (mode : ℕ) (frame : List ℕ) (is qs : List ℤ) (r : Answer) (is' qs' : List ℤ) : Type 0 where
  pub answer : Written
  pub promise : SendingA mode frame is qs answer is' qs'
  pub told : r ≡ answer_of (of_written answer)

-- ortkaveq_receive_a(mode, i, q, area, first, second): the answer, and `area`, `first` and `second` after
pub record ReceiveACall (mode : ℕ) (is qs : List ℤ) (area : List ℕ) (r : Received) (after first second : List ℕ) : Type 0 where
  pub answer : ReceivedBurst
  pub promise : ReceivingA mode is qs area answer after
  pub told : r ≡ received_of (of_received_a answer.answer)
  pub first_list : first ≡ answer.first
  pub second_list : second ≡ answer.second

-- ortkaveq_send_b(mode, frame, scheme, i, q): the answer, and `i` and `q` after
pub record SendBCall (mode : ℕ) (frame scheme : List ℕ) (is qs : List ℤ) (r : Answer) (is' qs' : List ℤ) : Type 0 where
  pub answer : Written
  pub promise : SendingB mode frame scheme is qs answer is' qs'
  pub told : r ≡ answer_of (of_written answer)

-- ortkaveq_receive_b(mode, size, scheme, i, q, area): the answer, and `area` after
pub record ReceiveBCall (mode size : ℕ) (scheme : List ℕ) (is qs : List ℤ) (area : List ℕ) (r : Received) (after : List ℕ) : Type 0 where
  pub answer : ReceivedB
  pub promise : ReceivingB mode size scheme is qs area answer after
  pub told : r ≡ received_of (of_received_b answer)

-- ortkaveq_symbols_b(mode, size, scheme): the checks with which send B and receive B begin, and no others
abbrev pub SymbolsBCall : ℕ → ℕ → List ℕ → Needed → Type 0
SymbolsBCall mode size scheme r = r ≡ needed_of (planned mode size scheme (passes tt)) (symbols_for mode size scheme)

-- ortkaveq_open_b(mode, size, scheme, stream): the answer, and `stream` after, in which the first step finds that state
pub record OpenBCall (mode size : ℕ) (scheme : List ℕ) (r : Answer) (stream : List ℕ) : Type 0 where
  pub state : State
  pub promise : OpeningB mode size scheme state
  pub told : r ≡ answer_of (told_of state.course)
  pub left : stream ≡ lent_of state
  pub found : state_of stream ≡ state

-- ortkaveq_step_b(stream, i, q, area): the answer, and `stream`, in which the next step finds that state, and `area` after, where `stream` holds a state before
pub record StepsOn (stream : List ℕ) (is qs : List ℤ) (area : List ℕ) (r : Received) (stream' area' : List ℕ) : Type 0 where
  pub holds : stream ≡ lent_of (state_of stream)
  pub answer : ReceivedB
  pub state : State
  pub promise : SteppingB (state_of stream) is qs area answer state area'
  pub told : r ≡ received_of (of_received_b answer)
  pub left : stream' ≡ lent_of state
  pub found : state_of stream' ≡ state

-- and where it holds none: number 16, and nothing is changed
pub record StepsNot (stream area : List ℕ) (r : Received) (stream' area' : List ℕ) : Type 0 where
  pub holds_none : stream ≢ lent_of (state_of stream)
  pub told : r ≡ received_of (refused 16 0)
  pub stream_left : stream' ≡ stream
  pub area_left : area' ≡ area

abbrev pub StepBCall : List ℕ → List ℤ → List ℤ → List ℕ → Received → List ℕ → List ℕ → Type 0
StepBCall stream is qs area r stream' area' = StepsOn stream is qs area r stream' area' ⊎ StepsNot stream area r stream' area'

-- ortkaveq_decide_a(mode, i, q, oi, oq): the answer, and `oi` and `oq` after
pub record DecideACall (mode : ℕ) (is qs out_i out_q : List ℤ) (r : Answer) (out_i' out_q' : List ℤ) : Type 0 where
  pub answer : Written
  pub promise : DecidingA mode is qs out_i out_q answer out_i' out_q'
  pub told : r ≡ answer_of (of_written answer)

-- ortkaveq_decide_b(mode, size, scheme, i, q, oi, oq): the answer, and `oi` and `oq` after
pub record DecideBCall (mode size : ℕ) (scheme : List ℕ) (is qs out_i out_q : List ℤ) (r : Answer) (out_i' out_q' : List ℤ) : Type 0 where
  pub answer : Written
  pub promise : DecidingB mode size scheme is qs out_i out_q answer out_i' out_q'
  pub told : r ≡ answer_of (of_written answer)
