-- How the receiver of Payload B holds what is on its way, and what its private functions promise one another.
-- The promise of receive B rests on nothing here.
-- Assumes nothing.
use Rattle.std.specs.Prelude.{◌≡◌, ◌≢◌, Bool, cond, ◌&&◌, List, [], ◌++◌, ℕ, suc, ◌+◌, ◌-◌, ◌*◌, ◌≤◌, ◌<◌, max, leb, ltb, ℤ, length, take, drop, replicate, Result, Ok, Option, MatchOption, MatchResult}
use Rattle.bits.specs.Words.{differ}
use Rattle.bits.specs.Bytes.{Bytes, bits_of}
use Rattle.bch.specs.Codes.{Within}
use Rattle.packed.specs.Packed.{bits512, padded}
use Rattle.symbols.specs.Grid.{sub_carriers}
use Rattle.payload.specs.Scrambler.{start, scrambled_from, register_after}
use Rattle.payload.specs.Wire.{worst_of, Fits, FirstHopeless}
use Rattle.payload_b.specs.CodedB.{block_bytes, block_bits, code_b, block_of, coded_from, symbols_for}
use Rattle.symbols.specs.Schemes.{sum_of, Scheme}
use Rattle.payload_b.specs.PromiseB.{mends_b, wire_from}
use Rattle.payload_b.specs.PlanB.{Sendable, plan_of}
use Rattle.payload_b.specs.StreamB.{Kept, stage_of, Takes}
use Rattle.payload_b.specs.declared.stream.State.{State}
use Rattle.payload_b.specs.declared.stream.Stage.{Stage}
use Rattle.symbols.specs.ByScheme.{fault_in}
use Rattle.symbols.specs.declared.Fault.{Fault}
use Rattle.payload_b.specs.ModesB.{number_of}
use Rattle.answers.specs.Checks.{passes}
use Rattle.payload_b.specs.declared.plan.Plan.{Plan}
use Rattle.receiver_b.specs.declared.stream.Stream.{Stream}
use Rattle.receiver_b.specs.declared.stream.Tally.{Tally}
use Rattle.receiver_b.specs.declared.block.Finished.{Finished}
use Rattle.answers.specs.Answers.{ReceivedB}

-- ---- what is planned

-- a frame whose checks 1, 2, 5, 6 and 3 pass
pub record Receivable (mode size : ℕ) (scheme : List ℕ) (plan : Plan) (is qs : List ℤ) (area : List ℕ) : Type 0 where
  pub sendable : Sendable mode size scheme
  pub planned : plan ≡ plan_of mode size scheme
  pub long_i : sub_carriers * plan.symbols ≤ length is
  pub long_q : sub_carriers * plan.symbols ≤ length qs
  pub room : size ≤ length area

-- ---- one block

-- no codeword is within t of the block
pub record NoneNear (mode : ℕ) (block : List ℕ) : Type 0 where
  pub coded : mode ≢ 0
  pub none : (v : List ℕ) → Within (code_b mode) block v → ⊥

-- the bytes of the block sent are written, so many places of the block differ, and the register is carried on
pub record Writes (mode register : ℕ) (block : List ℕ) (count after : ℕ) (out : List ℕ) : Type 0 where
  pub long : length out ≡ block_bytes mode
  pub bytes : Bytes out
  pub near : count ≤ mends_b mode
  pub counted : count ≡ differ (block_of mode (scrambled_from register (bits_of out))) block
  pub carried : after ≡ register_after (8 * block_bytes mode) register

-- what `finish` promises
abbrev pub Finishes : ℕ → ℕ → List ℕ → List ℕ → Option Finished → List ℕ → Type 0
Finishes mode register block out found out' =
    MatchOption found (NoneNear mode block × (out' ≡ out)) (λ done. Writes mode register block done.count done.register out')

-- ---- bits on their way to the next block: `held` are bits of which the first `count` wait

-- a tally that the code may go on from
pub record Counts (mode blocks : ℕ) (s : Tally) : Type 0 where
  pub few : s.done ≤ blocks
  pub mended : s.mended ≤ block_bytes mode * s.done

-- a state that the code may go on from: less than a block waits, none where all blocks are done, and behind it there are zeros
pub record Sane (mode blocks : ℕ) (held : List ℕ) (s : Tally) : Type 0 where
  pub partial : s.count < block_bits mode
  pub ended : blocks ≤ s.done → s.count ≡ 0
  pub counts : Counts mode blocks s
  pub behind : held ≡ padded (take s.count held)

-- nothing taken in yet
abbrev pub began : Stream
began = record { block = replicate 8 0; tally = record { count = 0; done = 0; register = start; mended = 0; worst = 0 } }

-- m blocks are mended since a tally, the base: their bits, the bytes that they are sent for, the register after them, and how many bits were mended, in all and
-- in the worst block, those of the base among them
pub record Done (mode : ℕ) (base : Tally) (m : ℕ) (bits bytes : List ℕ) (register mended worst : ℕ) : Type 0 where
  pub long : length bits ≡ block_bits mode * m
  pub fits : Fits (wire_from mode base.register (block_bytes mode * m)) bits bytes
  pub carried : register ≡ register_after (8 * length bytes) base.register
  pub counted : mended ≡ base.mended + differ (coded_from mode base.register bytes) bits
  pub largest : worst ≡ max base.worst (worst_of (block_bits mode) m (coded_from mode base.register bytes) bits)

-- of the bits `fed` since the base, the whole blocks that are done are mended and the rest waits; their bytes stand in the area behind those of the base.
-- Behind all blocks comes the fill
pub record Going (mode blocks : ℕ) (base : Tally) (fed area held : List ℕ) (s : Tally) : Type 0 where
  pub m : ℕ
  pub since : s.done ≡ base.done + m
  pub bits : List ℕ
  pub fill : List ℕ
  pub parts : fed ≡ bits ++ (take s.count held ++ fill)
  pub done : Done mode base m bits (take (block_bytes mode * m) (drop (block_bytes mode * base.done) area)) s.register s.mended s.worst
  pub unfilled : s.done < blocks → fill ≡ []

-- of the blocks `fed` since the base, the next, behind so many of the frame's, is whole and has no codeword within t, and every block before it has one; it is
-- one of the frame's
pub record Stuck (mode blocks : ℕ) (base : Tally) (fed : List ℕ) (done : ℕ) : Type 0 where
  pub coded : mode ≢ 0
  pub next : done < blocks
  pub m : ℕ
  pub since : done ≡ base.done + m
  pub whole : block_bits mode * suc m ≤ length fed
  pub hopeless : FirstHopeless (code_b mode) (suc m) fed m

-- more bits are taken in: in the area nothing is touched but the bytes of the blocks that are done now
pub record Moves (mode blocks : ℕ) (bits area held : List ℕ) (s : Tally) (area' held' : List ℕ) (s' : Tally) : Type 0 where
  pub long : length area' ≡ length area
  pub onward : s.done ≤ s'.done
  pub front : take (block_bytes mode * s.done) area' ≡ take (block_bytes mode * s.done) area
  pub beyond : drop (block_bytes mode * s'.done) area' ≡ drop (block_bytes mode * s'.done) area
  pub taken : (base : Tally) (fed : List ℕ) → Going mode blocks base fed area held s → Going mode blocks base (fed ++ bits) area' held' s'

-- and the state after is one to go on from
abbrev pub Enters : ℕ → ℕ → List ℕ → List ℕ → List ℕ → Tally → List ℕ → List ℕ → Tally → Type 0
Enters mode blocks bits area held s area' held' s' = Sane mode blocks held' s' × Moves mode blocks bits area held s area' held' s'

-- or a block of them, behind so many of the frame's, cannot be mended: in the area nothing is touched beyond the bytes of all blocks
pub record Sticks (mode blocks : ℕ) (bits area held : List ℕ) (s : Tally) (area' : List ℕ) (done : ℕ) : Type 0 where
  pub long : length area' ≡ length area
  pub beyond : drop (block_bytes mode * blocks) area' ≡ drop (block_bytes mode * blocks) area
  pub stuck : (base : Tally) (fed : List ℕ) → Going mode blocks base fed area held s → Stuck mode blocks base (fed ++ bits) done

-- the one or the other
abbrev pub TakesIn : ℕ → ℕ → List ℕ → List ℕ → List ℕ → Tally → List ℕ → Result Stream ℕ → Type 0
TakesIn mode blocks bits area held s area' r =
    MatchResult r (λ end. Enters mode blocks bits area held s area' (bits512 end.block) end.tally)
    (λ done. Sticks mode blocks bits area held s area' done)

-- whether a full block waits, one of the frame's
abbrev pub wants_block : ℕ → ℕ → Tally → Bool
wants_block blocks size s = ltb s.done blocks && leb size s.count

-- a tally whose bits are looked at, no more than a run of 41 machine words holds, and an area with room for all blocks
pub record Wanted (mode blocks : ℕ) (s : Tally) (area : List ℕ) : Type 0 where
  pub known : mode ≤ 2
  pub within : s.count ≤ 2624
  pub next : s.done < blocks
  pub counts : Counts mode blocks s
  pub room : block_bytes mode * blocks ≤ length area

-- a full block waits
pub record Full (mode : ℕ) (area : List ℕ) (s : Tally) : Type 0 where
  pub coded : mode ≢ 0
  pub known : mode ≤ 2
  pub full : block_bits mode ≤ s.count
  pub fits : block_bytes mode * s.done + block_bytes mode ≤ length area
  pub mended : s.mended ≤ block_bytes mode * s.done

-- it is mended, and of the bits that wait, those of the block are gone
pub record Closes (mode : ℕ) (area block : List ℕ) (s : Tally) (area' : List ℕ) (s' : Tally) : Type 0 where
  pub shorter : s'.count ≡ s.count - block_bits mode
  pub counts : (blocks : ℕ) → s.done < blocks → Counts mode blocks s'
  pub moves : (blocks : ℕ) → s.done < blocks → (held : List ℕ) → take (block_bits mode) held ≡ take (block_bits mode) block
      → Moves mode blocks [] area held s area' (drop (block_bits mode) held) s'

-- or it cannot be, and nothing is touched
abbrev pub Tries : ℕ → List ℕ → List ℕ → Tally → List ℕ → Option Tally → Type 0
Tries mode area block s area' r =
    MatchOption r (NoneNear mode (take (block_bits mode) block) × (area' ≡ area)) (λ s'. Closes mode area block s area' s')

-- of the bits that wait the first are taken in
pub record Shortens (mode blocks : ℕ) (area held : List ℕ) (s : Tally) (area' : List ℕ) (s' : Tally) : Type 0 where
  pub fewer : s'.count ≤ s.count
  pub counts : Counts mode blocks s'
  pub moves : Moves mode blocks [] area held s area' (drop (s.count - s'.count) held) s'

-- and less than a block is left where there are blocks to come
abbrev pub Clears : ℕ → ℕ → List ℕ → List ℕ → Tally → List ℕ → Tally → Type 0
Clears mode blocks area held s area' s' = Shortens mode blocks area held s area' s' × (s'.done < blocks → s'.count < block_bits mode)

-- or one of these blocks cannot be mended
abbrev pub TakesBlocks : ℕ → ℕ → List ℕ → List ℕ → Tally → List ℕ → Result Tally ℕ → Type 0
TakesBlocks mode blocks area held s area' r =
    MatchResult r (λ s'. Clears mode blocks area held s area' s') (λ done. Sticks mode blocks [] area held s area' done)

-- of the first bits of a run, so many, the last wait; where there are blocks to come they fit eight machine words
pub record Ends (blocks total : ℕ) (s : Tally) : Type 0 where
  pub within : total ≤ 2624
  pub fewer : s.count ≤ total
  pub short : s.done < blocks → s.count ≤ 512

-- how many are left: none behind the last block
abbrev pub left_in : ℕ → Tally → ℕ
left_in blocks s = cond (ltb s.done blocks) s.count 0

-- so many of the bits that wait are kept
abbrev pub keeping : ℕ → Tally → Tally
keeping n s = record { count = n; done = s.done; register = s.register; mended = s.mended; worst = s.worst }

-- those that are left go into the unfinished block
pub record Leaves (blocks : ℕ) (held : List ℕ) (s : Tally) (held' : List ℕ) (s' : Tally) : Type 0 where
  pub bits : held' ≡ padded (take (left_in blocks s) held)
  pub tally : s' ≡ keeping (left_in blocks s) s

-- what OFDM symbols need that are taken in, m of them
pub record Ready (scheme : List ℕ) (plan : Plan) (from : Stream) (m : ℕ) (is qs : List ℤ) (area : List ℕ) : Type 0 where
  pub entries : Scheme scheme
  pub summed : plan.sum ≡ sum_of scheme
  pub sane : Sane (number_of plan.mode) plan.blocks (bits512 from.block) from.tally
  pub long_i : sub_carriers * m ≤ length is
  pub long_q : sub_carriers * m ≤ length qs
  pub room : block_bytes (number_of plan.mode) * plan.blocks ≤ length area

-- ---- a step of a stream

-- a state that is sound, and how far it is
pub record Staged (s : State) (stage : Stage) : Type 0 where
  pub kept : Kept s
  pub far : stage ≡ stage_of s

-- another OFDM symbol is wanted, and there is room for it
pub record Next (s : State) (stage : Stage) (is qs : List ℤ) (area : List ℕ) : Type 0 where
  pub staged : Staged s stage
  pub more : s.seen < symbols_for s.mode s.size s.scheme
  pub long_i : sub_carriers ≤ length is
  pub long_q : sub_carriers ≤ length qs
  pub room : s.size ≤ length area

-- nothing is found
abbrev pub no_fault : Result Unit Fault
no_fault = Ok tt

-- and 7 and 8 find no fault in it
pub record Clean (s : State) (stage : Stage) (is qs : List ℤ) (area : List ℕ) : Type 0 where
  pub next : Next s stage is qs area
  pub clear : no_fault ≡ fault_in 1 s.scheme is qs

-- its bits are taken in
abbrev pub Taking : State → List ℤ → List ℤ → List ℕ → ReceivedB → State → List ℕ → Type 0
Taking s is qs area = Takes (passes tt) s is qs area
