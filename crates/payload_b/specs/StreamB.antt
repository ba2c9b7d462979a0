-- Payload B received one OFDM symbol at a time (document 02, item 5): what opening a stream and each step promise, for every state, OFDM symbol and area.
-- A state that no opening and no steps give is answered with 16, and nothing is changed. One that holds a refusal repeats it, whoever wrote it there.
-- Assumes nothing.
use Rattle.std.specs.Prelude.{◌≡◌, ◌⊎◌, ◌≢◌, Bool, true, false, cond, ◌&&◌, List, ◌++◌, ℕ, suc, ◌+◌, ◌-◌, ◌*◌, ◌/◌, ◌%◌, ◌≤◌, min, max, eqb, leb, ltb, ℤ, length, take, drop, replicate, Option, MatchOption}
use Rattle.answers.specs.Answers.{accepted, refused, because, of_received_b, ReceivedB}
use Rattle.answers.specs.Checks.{Checked, fails, passes, failing}
use Rattle.answers.specs.declared.Refusal.{Refusal}
use Rattle.bits.specs.Words.{differ}
use Rattle.packed.specs.Packed.{bits512, padded, words_of}
use Rattle.symbols.specs.Grid.{sub_carriers, symbol_points}
use Rattle.symbols.specs.Grids.{points_from, room}
use Rattle.symbols.specs.Schemes.{sum_of, labelled}
use Rattle.payload.specs.Scrambler.{start, register_after}
use Rattle.payload.specs.Wire.{Wire, total, worst, Fits, FirstHopeless}
use Rattle.payload_b.specs.CodedB.{block_bytes, block_bits, code_b, blocks_in, symbols_for}
use Rattle.payload_b.specs.PromiseB.{planned, points_checked_b, mends_b, wire_from}
use Rattle.payload_b.specs.PlanB.{Sendable, plan_of}
use Rattle.payload_b.specs.declared.stream.State.{State}
use Rattle.payload_b.specs.declared.stream.Moving.{Moving}
use Rattle.payload_b.specs.declared.stream.Stage.{Stage}
use Rattle.payload_b.specs.declared.stream.Course.{Course}
use Rattle.payload_b.specs.declared.stream.Course.TheVariants.{Open, Refused}

-- ---- a state by its scheme, and what moves

abbrev pub with_scheme : List ℕ → Moving → State
with_scheme scheme m = record {
  scheme = scheme;
  block = m.block;
  count = m.count;
  mode = m.mode;
  size = m.size;
  seen = m.seen;
  register = m.register;
  mended = m.mended;
  worst = m.worst;
  course = m.course;
}

abbrev pub moving : State → Moving
moving s = record {
  block = s.block;
  count = s.count;
  mode = s.mode;
  size = s.size;
  seen = s.seen;
  register = s.register;
  mended = s.mended;
  worst = s.worst;
  course = s.course;
}

-- ---- how far a stream is

-- the blocks complete after m OFDM symbols
abbrev pub blocks_after : ℕ → ℕ → List ℕ → ℕ → ℕ
blocks_after mode n scheme m = min (sum_of scheme * m / block_bits mode) (blocks_in mode n)

-- how many bits wait then for the next block; behind the last block comes the fill, of which nothing waits
abbrev pub wait_after : ℕ → ℕ → List ℕ → ℕ → ℕ
wait_after mode n scheme m = cond (ltb (blocks_after mode n scheme m) (blocks_in mode n)) (sum_of scheme * m % block_bits mode) 0

-- of a state: the blocks that are done, and those that will be after the next OFDM symbol
abbrev pub done_in : State → ℕ
done_in s = blocks_after s.mode s.size s.scheme s.seen

abbrev pub done_next : State → ℕ
done_next s = blocks_after s.mode s.size s.scheme (suc s.seen)

-- ---- states

-- nothing seen yet
abbrev pub fresh : ℕ → ℕ → List ℕ → State
fresh mode n scheme = record {
  scheme = scheme;
  block = replicate 8 0;
  count = 0;
  mode = mode;
  size = n;
  seen = 0;
  register = start;
  mended = 0;
  worst = 0;
  course = Open;
}

-- a refusal is written into a state, and nothing else is changed
abbrev pub stopped : Refusal → State → State
stopped why s = record {
  scheme = s.scheme;
  block = s.block;
  count = s.count;
  mode = s.mode;
  size = s.size;
  seen = s.seen;
  register = s.register;
  mended = s.mended;
  worst = s.worst;
  course = Refused why;
}

-- whether all checks pass
abbrev pub all_pass : Checked Unit → Bool
all_pass (fails number place) = false
all_pass (passes _) = true

-- whether an opening and steps can give an open state: its frame passes 1, 2, 5 and 6; it has seen no more OFDM symbols than that needs; as many bits wait, and the
-- scrambler is as far, as they say, with zeros behind the bits that wait; and so many bits can be mended in the blocks that are done
abbrev pub sound : State → Bool
sound s =
    all_pass (planned s.mode s.size s.scheme (passes tt))
    && (leb s.seen (symbols_for s.mode s.size s.scheme)
    && (eqb s.count (wait_after s.mode s.size s.scheme s.seen)
    && (eqb s.register (register_after (8 * (block_bytes s.mode * done_in s)) start)
    && (eqb (differ (bits512 s.block) (padded (take s.count (bits512 s.block)))) 0
    && (leb s.worst (mends_b s.mode)
    && (leb s.worst s.mended
    && leb s.mended (s.worst * done_in s)))))))

-- what is known of it then
pub record Kept (s : State) : Type 0 where
  pub sendable : Sendable s.mode s.size s.scheme
  pub within : s.seen ≤ symbols_for s.mode s.size s.scheme
  pub waits : s.count ≡ wait_after s.mode s.size s.scheme s.seen
  pub carried : s.register ≡ register_after (8 * (block_bytes s.mode * done_in s)) start
  pub behind : bits512 s.block ≡ padded (take s.count (bits512 s.block))
  pub near : s.worst ≤ mends_b s.mode
  pub least : s.worst ≤ s.mended
  pub most : s.mended ≤ s.worst * done_in s

-- what the code finds of one
abbrev pub stage_of : State → Stage
stage_of s = record { plan = plan_of s.mode s.size s.scheme; done = done_in s }

abbrev pub Judges : State → Option Stage → Type 0
Judges s found = MatchOption found (sound s ≡ false) (λ stage. (sound s ≡ true) × (stage ≡ stage_of s))

-- ---- opening

-- refused: the state holds the refusal, and otherwise is that of no frame
pub record Shuts (number place : ℕ) (s : State) : Type 0 where
  pub why : Refusal
  pub told : because why ≡ refused number place
  pub state : s ≡ stopped why (fresh 0 0 (replicate symbol_points 0))

abbrev pub Opens : Checked Unit → ℕ → ℕ → List ℕ → State → Type 0
Opens (fails number place) mode n scheme s = Shuts number place s
Opens (passes _) mode n scheme s = s ≡ fresh mode n scheme

-- open B(mode, frame length, scheme): the state, which says whether it is open
abbrev pub OpeningB : ℕ → ℕ → List ℕ → State → Type 0
OpeningB mode n scheme s = Opens (planned mode n scheme (passes tt)) mode n scheme s

-- ---- a step

-- what goes before the OFDM symbol is looked at: an earlier refusal; a state that is not sound; 6 after the last OFDM symbol; 3
abbrev pub step_checked : Course → State → List ℤ → List ℤ → List ℕ → Checked Unit
step_checked (Refused why) s is qs area = failing why
step_checked Open s is qs area =
    cond (sound s)
    (cond (ltb s.seen (symbols_for s.mode s.size s.scheme))
    (cond (room sub_carriers is qs && leb s.size (length area)) (passes tt) (fails 3 0))
    (fails 6 0))
    (fails 16 0)

-- the bits at hand: those that wait, and behind them those of this OFDM symbol
abbrev pub at_hand : State → List ℤ → List ℤ → List ℕ
at_hand s is qs = take s.count (bits512 s.block) ++ labelled s.scheme (points_from is qs 1 symbol_points)

-- of which so many blocks are complete now, and their bits
abbrev pub blocks_now : State → ℕ
blocks_now s = done_next s - done_in s

abbrev pub bits_now : State → List ℤ → List ℤ → List ℕ
bits_now s is qs = take (block_bits s.mode * blocks_now s) (at_hand s is qs)

-- what was sent for them: the scrambler runs on from the state's
abbrev pub wire_now : State → Wire
wire_now s = wire_from s.mode s.register (block_bytes s.mode * blocks_now s)

-- how many bits wait after it
abbrev pub wait_next : State → ℕ
wait_next s = wait_after s.mode s.size s.scheme (suc s.seen)

-- the state after, where those bytes fit
abbrev pub onward : State → List ℤ → List ℤ → List ℕ → State
onward s is qs out = record {
  scheme = s.scheme;
  block = words_of 8 (padded (take (wait_next s) (drop (block_bits s.mode * blocks_now s) (at_hand s is qs))));
  count = wait_next s;
  mode = s.mode;
  size = s.size;
  seen = suc s.seen;
  register = register_after (8 * (block_bytes s.mode * blocks_now s)) s.register;
  mended = s.mended + total (wire_now s) (bits_now s is qs) out;
  worst = max s.worst (worst (wire_now s) (bits_now s is qs) out);
  course = Open;
}

-- it is accepted: the bytes of the blocks complete now stand in their place, all else in the area is as it was, and the counts are over the blocks complete so far
pub record GoesOn (s : State) (is qs : List ℤ) (area : List ℕ) (answer : ReceivedB) (s' : State) (area' : List ℕ) : Type 0 where
  pub out : List ℕ
  pub fits : Fits (wire_now s) (bits_now s is qs) out
  pub tells : of_received_b answer ≡ accepted s'.mended 0 s'.worst
  pub state : s' ≡ onward s is qs out
  pub left : area' ≡ take (block_bytes s.mode * done_in s) area ++ (out ++ drop (block_bytes s.mode * done_next s) area)

-- it is refused: the state holds that, the frame's area is all zero, and nothing beyond it is touched
pub record Stops (number place : ℕ) (s : State) (area : List ℕ) (answer : ReceivedB) (s' : State) (area' : List ℕ) : Type 0 where
  pub why : Refusal
  pub told : because why ≡ refused number place
  pub tells : of_received_b answer ≡ refused number place
  pub state : s' ≡ stopped why s
  pub left : area' ≡ replicate s.size 0 ++ drop s.size area

-- of the blocks complete now one has no codeword within t, and every one before it has one
pub record Halts (s : State) (is qs : List ℤ) (area : List ℕ) (answer : ReceivedB) (s' : State) (area' : List ℕ) : Type 0 where
  pub coded : s.mode ≢ 0
  pub block : ℕ
  pub hopeless : FirstHopeless (code_b s.mode) (blocks_now s) (bits_now s is qs) block
  pub stops : Stops 9 (done_in s + block) s area answer s' area'

-- by 7 and 8 of this OFDM symbol, whose indices count from its own first
abbrev pub Takes : Checked Unit → State → List ℤ → List ℤ → List ℕ → ReceivedB → State → List ℕ → Type 0
Takes (fails number index) s is qs area answer s' area' = Stops number (sub_carriers * s.seen + index) s area answer s' area'
Takes (passes _) s is qs area answer s' area' = GoesOn s is qs area answer s' area' ⊎ Halts s is qs area answer s' area'

-- by what goes before
abbrev pub Steps : Checked Unit → State → List ℤ → List ℤ → List ℕ → ReceivedB → State → List ℕ → Type 0
Steps (fails number place) s is qs area answer s' area' = (of_received_b answer ≡ refused number place) × (s' ≡ s) × (area' ≡ area)
Steps (passes _) s is qs area answer s' area' = Takes (points_checked_b 1 s.scheme is qs) s is qs area answer s' area'

-- step B(state, I, Q, area): the answer, and state and area after
abbrev pub SteppingB : State → List ℤ → List ℤ → List ℕ → ReceivedB → State → List ℕ → Type 0
SteppingB s is qs area answer s' area' = Steps (step_checked s.course s is qs area) s is qs area answer s' area'
