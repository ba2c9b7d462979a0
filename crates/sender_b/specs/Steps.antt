-- How the sender of Payload B holds bits on their way to the next OFDM symbol, and what its private functions promise one another.
-- The promise of send B rests on nothing here.
-- Assumes nothing.
use Rattle.std.specs.Prelude.{◌≡◌, ◌≢◌, Bool, cond, ◌&&◌, List, ◌++◌, map, ℕ, ◌+◌, ◌-◌, ◌*◌, ◌/◌, ◌%◌, ◌≤◌, ◌<◌, eqb, ltb, ℤ, length, take, drop, replicate}
use Rattle.bch.specs.Codes.{encoded}
use Rattle.packed.specs.Packed.{bits_from, padded, padded_to}
use Rattle.points.specs.declared.Point.{Point}
use Rattle.payload.specs.Scrambler.{start, register_after}
use Rattle.symbols.specs.Grid.{sub_carriers}
use Rattle.symbols.specs.Grids.{spread, placed}
use Rattle.symbols.specs.Schemes.{repeated, mapped}
use Rattle.payload_b.specs.CodedB.{block_bytes, code_b, coded_b, symbols_for, sent_b}
use Rattle.payload_b.specs.PlanB.{Sendable, plan_of}
use Rattle.payload_b.specs.declared.plan.Plan.{Plan}
use Rattle.sender_b.specs.declared.sender.Outgoing.{Outgoing}
use Rattle.sender_b.specs.declared.sender.Run.{Run}

-- ---- pieces of the frame

-- n bytes are made into bits at once, where so many are left: one block, or uncoded any number up to 64
pub record Piece (mode left n : ℕ) : Type 0 where
  pub some : 0 < n
  pub few : n ≤ 64
  pub within : n ≤ left
  pub whole : n % block_bytes mode ≡ 0
  pub one : mode ≢ 0 → n ≡ block_bytes mode

-- what is sent for the bits of a piece, with zeros behind
abbrev pub coded_piece : ℕ → List ℕ → List ℕ
coded_piece mode bits = cond (eqb mode 0) bits (padded (encoded (code_b mode) (take (8 * block_bytes mode) bits)))

-- ---- bits that wait, at the front of a run

-- whole blocks of the frame were put in, of whole blocks, and the register is carried on
pub record Ready (mode : ℕ) (frame : List ℕ) (o : Outgoing) : Type 0 where
  pub known : mode ≤ 2
  pub blocks : length frame % block_bytes mode ≡ 0
  pub low : o.at ≤ length frame
  pub whole : o.at % block_bytes mode ≡ 0
  pub carried : o.register ≡ register_after (8 * o.at) start

-- fewer than the bits of an OFDM symbol wait, and there is more of the frame
abbrev pub is_short : ℕ → ℕ → Outgoing → Bool
is_short size sum o = ltb o.count sum && ltb o.at size

-- the bits made of the frame so far
abbrev pub made : ℕ → List ℕ → Run → List ℕ
made mode frame run = coded_b mode (take run.going.at frame)

-- of these so many are sent, and the others wait, with zeros behind
pub record Waiting (mode : ℕ) (frame : List ℕ) (sent : ℕ) (run : Run) : Type 0 where
  pub held : bits_from 41 0 run.bits ≡ padded_to 2624 (drop sent (made mode frame run))
  pub counted : run.going.count ≡ length (drop sent (made mode frame run))
  pub ahead : run.going.at < length frame → sent ≤ length (made mode frame run)

-- more of the frame was put in between the one run and the other
abbrev pub Grows : ℕ → List ℕ → Run → Run → Type 0
Grows mode frame run run' = (sent : ℕ) → Waiting mode frame sent run → Waiting mode frame sent run'

-- one piece more was
pub record OneMore (mode : ℕ) (frame : List ℕ) (run run' : Run) : Type 0 where
  pub ready : Ready mode frame run'.going
  pub onward : run.going.at < run'.going.at
  pub few : run'.going.count ≤ run.going.count + 512
  pub grows : Grows mode frame run run'

-- pieces were, until the bits of an OFDM symbol wait, or all that is left of the frame
pub record Filled (mode : ℕ) (frame : List ℕ) (sum : ℕ) (run run' : Run) : Type 0 where
  pub ready : Ready mode frame run'.going
  pub few : run'.going.count < sum + 512
  pub full : run'.going.at < length frame → sum ≤ run'.going.count
  pub grows : Grows mode frame run run'

-- the first of them are gone
pub record Gone (sum : ℕ) (run run' : Run) : Type 0 where
  pub left : bits_from 41 0 run'.bits ≡ take 512 (drop sum (bits_from (sum / 64 + 9) 0 run.bits)) ++ replicate 2112 0
  pub counted : run'.going.count ≡ run.going.count - sum
  pub same_at : run'.going.at ≡ run.going.at
  pub same_register : run'.going.register ≡ run.going.register

-- ---- OFDM symbols, one behind the other

-- the sub-carriers of the OFDM symbol of these bits
abbrev pub spread_of : (Point → ℤ) → List ℕ → List ℕ → List ℤ
spread_of level scheme bits = spread (map level (mapped scheme bits))

-- it is written behind m others
abbrev pub Behind : (Point → ℤ) → List ℕ → List ℕ → ℕ → List ℤ → List ℤ → Type 0
Behind level scheme bits m is is' =
    is' ≡ take (sub_carriers * m) is ++ (spread_of level scheme bits ++ drop (sub_carriers * m + sub_carriers) is)

-- of `fed`, the first m OFDM symbols stand at the front of a list
abbrev pub Sent : (Point → ℤ) → List ℕ → List ℕ → ℕ → List ℤ → List ℤ → Type 0
Sent level scheme fed m is₀ is = is ≡ placed level m (mapped (repeated m scheme) fed) ++ drop (sub_carriers * m) is₀

-- ---- a frame

-- the checks of a frame pass, and this is its plan
pub record Passed (mode : ℕ) (frame scheme : List ℕ) (plan : Plan) (is qs : List ℤ) : Type 0 where
  pub sendable : Sendable mode (length frame) scheme
  pub planned : plan ≡ plan_of mode (length frame) scheme
  pub room : (sub_carriers * symbols_for mode (length frame) scheme ≤ length is) × (sub_carriers * symbols_for mode (length frame) scheme ≤ length qs)

-- all of it is sent
abbrev pub AllSent : (Point → ℤ) → ℕ → List ℕ → List ℕ → List ℤ → List ℤ → Type 0
AllSent level mode frame scheme is₀ is = is ≡ sent_b level mode frame scheme ++ drop (sub_carriers * symbols_for mode (length frame) scheme) is₀
