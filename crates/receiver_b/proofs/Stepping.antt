-- A step of a stream of Payload B: what is taken in of one OFDM symbol, from a state that is sound, is what the step promises.
-- Assumes nothing.
use mathlib.Core.Path.{◌≡◌, refl, sym, ap, ap₂, ◌∙◌}
use mathlib.Core.Logic.{inl, inr}
use mathlib.Core.List.{List, [], ◌++◌, append-nil}
use Prim.Native.Nat.{ℕ, suc, ◌+◌, ◌-◌, ◌*◌, ◌/◌, ◌≤◌, ◌<◌, min, max}
use native.Mathlib.Nat.{mul-add, mul-suc, mul-le-mul_right, le_trans, le-div_iff_mul-le, div-eq_of_lt-le}
use native.Mathlib.Numerals.{add-one}
use native.Mathlib.Decide.{dec_le}
use native.Mathlib.Omega.{arith}
use lib.IntN.{ℤ}
use lib.ListN.{length, take, drop, replicate, length-append, take-append-drop}
use lib.Seq.{take_at, drop_at, drop-drop, length-take-le}
use Rattle.answers.specs.Answers.{refused, counted_b}
use Rattle.answers.specs.declared.Refusal.TheVariants.{Uncorrectable}
use Rattle.packed.specs.Packed.{bits512, padded, words_of}
use Rattle.packed.proofs.Once.{Wide}
use Rattle.packed.proofs.Walks.{length_512}
use Rattle.packed.proofs.Wordings.{words_bits}
use Rattle.symbols.specs.Grids.{points_from}
use Rattle.symbols.specs.Schemes.{sum_of, repeated, labelled}
use Rattle.symbols.specs.ByScheme.{read_by}
use Rattle.symbols.proofs.Readings.{received-one}
use Rattle.payload.specs.Scrambler.{register_after}
use Rattle.payload.specs.Wire.{total, worst, Fits}
use Rattle.payload_b.specs.CodedB.{block_bytes, block_bits, blocks_in, symbols_for}
use Rattle.payload_b.specs.StreamB.{done_in, done_next, stopped, Kept, at_hand, blocks_now, bits_now, wire_now, wait_next, onward, GoesOn, Halts}
use Rattle.payload_b.specs.declared.stream.State.{State}
use Rattle.payload_b.specs.declared.stream.Stage.{Stage}
use Rattle.payload_b.specs.declared.stream.Course.TheVariants.{Open}
use Rattle.payload_b.specs.ModesB.{number_of}
use Rattle.payload_b.proofs.ModesB.{number_of_lem}
use Rattle.payload_b.proofs.Plans.{whole_blocks}
use Rattle.payload_b.proofs.Blocks.{block_bits_pos, block_bits_few, mends_few, coded}
use Rattle.payload_b.proofs.Blockwise.{blocks_in_lem}
use Rattle.payload_b.proofs.StatesB.{after_few, before_all, wait_few, wait_none, bits_after, after_next, hand_long, now_few}
use Rattle.receiver_b.specs.Steps.{Sane, Going, Enters, Sticks, TakesIn, Ready, Clean, Taking}
use Rattle.receiver_b.specs.declared.stream.Stream.{Stream}
use Rattle.receiver_b.specs.declared.stream.Tally.{Tally}
use Rattle.receiver_b.proofs.Faults as faults
use Rattle.receiver_b.proofs.Receiving.{none_stray}
use Rattle.receiver_b.proofs.Progress.{hopeless_wider}
use Rattle.receiver_b.proofs.Taking.{base_taken}
use Rattle.std.specs.Prelude.{Result, Err}

-- ---- the step

-- a state's tally
abbrev pub tally_of : State → Tally
tally_of s = record { count = s.count; done = done_in s; register = s.register; mended = s.mended; worst = s.worst }

-- a state that goes on, with this unfinished block and tally
abbrev pub carried_on : State → List ℕ → Tally → State
carried_on s block t = record {
  scheme = s.scheme;
  block = block;
  count = t.count;
  mode = s.mode;
  size = s.size;
  seen = s.seen + 1;
  register = t.register;
  mended = t.mended;
  worst = t.worst;
  course = Open;
}

-- a state that is kept is one to go on from
pub kept_sane : (s : State) → Kept s → Sane s.mode (blocks_in s.mode s.size) (bits512 s.block) (tally_of s)
kept_sane s k =
    let p = k.sendable in
    let most = mul-le-mul_right (done_in s) (le_trans k.near (mends_few s.mode)) in
    record {
      partial = rw k.waits (wait_few p s.seen);
      ended = λ all. k.waits ∙ wait_none p s.seen all;
      counts = record { few = after_few p s.seen; mended = omega (arith, k.most, most) };
      behind = k.behind;
    }

module _ (s : State) (kept : Kept s) (more : s.seen < symbols_for s.mode s.size s.scheme) (is qs : List ℤ) where
  abbrev hand : List ℕ
  hand = at_hand s is qs

  abbrev size : ℕ
  size = block_bits s.mode

  abbrev blocks : ℕ
  blocks = blocks_in s.mode s.size

  -- some blocks are not done yet
  some_left : done_in s < blocks
  some_left = before_all kept.sendable s.seen more

  -- the blocks complete now, by the bits at hand
  blocks_hold : blocks_now s ≡ min ((s.count + sum_of s.scheme) / size) (blocks - done_in s)
  blocks_hold = omega (arith, rw (← kept.waits) at (after_next kept.sendable s.seen some_left))

  module _ (area : List ℕ) {area' : List ℕ} (block : List ℕ) {t : Tally}
      (on : Enters s.mode blocks (labelled s.scheme (points_from is qs 1 210)) area (bits512 s.block) (tally_of s) area' (bits512 block) t) where
    abbrev held : List ℕ
    held = bits512 block

    -- the bits that wait after it are there
    held_long : length (take t.count held) ≡ t.count
    held_long = length-take-le t.count held (omega (arith, length_512 block, on.0.partial, block_bits_few s.mode))

    -- all blocks complete now are mended
    module _ (g : Going s.mode blocks (tally_of s) hand area' held t) where
      abbrev rest : List ℕ
      rest = take t.count held ++ g.fill

      parted : s.count + sum_of s.scheme ≡ size * g.m + length rest
      parted = sym (hand_long s kept is qs) ∙ ap length g.parts ∙ length-append g.bits rest ∙ ap (λ (n : ℕ). n + length rest) g.done.long

      rest_long : length rest ≡ t.count + length g.fill
      rest_long = length-append (take t.count held) g.fill ∙ ap (λ (n : ℕ). n + length g.fill) held_long

      -- so many they are, and so many bits wait
      counted : (g.m ≡ blocks_now s) × (t.count ≡ wait_next s)
      counted = by (dec_le blocks t.done)
        where
          by : Dec (blocks ≤ t.done) → (g.m ≡ blocks_now s) × (t.count ≡ wait_next s)
          by (yes all) =
              let enough : g.m ≤ (s.count + sum_of s.scheme) / size = (le-div_iff_mul-le (block_bits_pos s.mode)).1 (omega (arith, parted)) in
              let m : g.m ≡ blocks_now s = omega (arith, blocks_hold, enough, g.since, on.0.counts.few) in
              let none = wait_none kept.sendable (suc s.seen) (omega (arith, m, now_few s kept is qs, g.since)) in
              (m, on.0.ended all ∙ sym none)
          by (no l) =
              let none = ap length (g.unfilled (omega arith)) in
              let just : (s.count + sum_of s.scheme) / size ≡ g.m
              = div-eq_of_lt-le size (omega (arith, parted)) (omega (arith, parted, rest_long, none, on.0.partial)) in
              let m : g.m ≡ blocks_now s = omega (arith, blocks_hold, just, g.since) in
              let here = bits_after kept.sendable s.seen some_left in
              let there = bits_after kept.sendable (suc s.seen) (omega (arith, m, now_few s kept is qs, g.since)) in
              let bits : size * done_next s ≡ size * done_in s + size * g.m
              = ap (λ (n : ℕ). size * n) (sym (now_few s kept is qs)) ∙ mul-add size (done_in s) (blocks_now s)
              ∙ ap (λ (n : ℕ). size * done_in s + size * n) (sym m) in
              (m, omega (arith, here, there, kept.waits, bits, parted, rest_long, none, mul-suc (sum_of s.scheme) s.seen))

      -- their bits, and what stands behind them
      bits_are : g.bits ≡ bits_now s is qs
      bits_are =
          sym (ap (take (size * blocks_now s)) g.parts
          ∙ take_at g.bits rest (size * blocks_now s) (g.done.long ∙ ap (λ (n : ℕ). size * n) counted.0))

      waits_are : held ≡ padded (take (wait_next s) (drop (size * blocks_now s) hand))
      waits_are =
          let behind : drop (size * blocks_now s) hand ≡ rest
          = ap (drop (size * blocks_now s)) g.parts
          ∙ drop_at g.bits rest (size * blocks_now s) (g.done.long ∙ ap (λ (n : ℕ). size * n) counted.0) in
          on.0.behind
          ∙ ap padded (sym (ap₂ take (sym counted.1) behind ∙ take_at (take t.count held) g.fill t.count held_long))

      -- their bytes
      abbrev out : List ℕ
      out = take (block_bytes s.mode * blocks_now s) (drop (block_bytes s.mode * done_in s) area')

      fits : Fits (wire_now s) (bits_now s is qs) out
      fits = rw (counted.0, bits_are) at g.done.fits

      left : area' ≡ take (block_bytes s.mode * done_in s) area ++ (out ++ drop (block_bytes s.mode * done_next s) area)
      left =
          let y = block_bytes s.mode in
          let at = y * done_in s in
          let end : at + y * blocks_now s ≡ y * done_next s = sym (mul-add y (done_in s) (blocks_now s)) ∙ ap (λ (n : ℕ). y * n) (now_few s kept is qs) in
          let last : t.done ≡ done_next s = g.since ∙ ap (λ (n : ℕ). done_in s + n) counted.0 ∙ now_few s kept is qs in
          let beyond : drop (y * done_next s) area' ≡ drop (y * done_next s) area = rw last at on.1.beyond in
          let behind : drop (y * blocks_now s) (drop at area') ≡ drop (y * done_next s) area
          = drop-drop (y * blocks_now s) at area' ∙ ap (λ (n : ℕ). drop n area') end ∙ beyond in
          sym (take-append-drop at area')
          ∙ ap₂ ◌++◌ on.1.front (sym (take-append-drop (y * blocks_now s) (drop at area')) ∙ ap (λ (w : List ℕ). out ++ w) behind)

      -- the state after
      state : length block ≡ 8 → Wide block → carried_on s block t ≡ onward s is qs out
      state long wide =
          let words : block ≡ words_of 8 (padded (take (wait_next s) (drop (size * blocks_now s) hand)))
          = sym (words_bits block long wide) ∙ ap (words_of 8) waits_are in
          let one = add-one s.seen in
          let register : t.register ≡ register_after (8 * (block_bytes s.mode * blocks_now s)) s.register
          = rw counted.0 at g.done.carried ∙ ap (λ (n : ℕ). register_after (8 * n) s.register) fits.long in
          let mended : t.mended ≡ s.mended + total (wire_now s) (bits_now s is qs) out = rw (counted.0, bits_are) at g.done.counted in
          let most : t.worst ≡ max s.worst (worst (wire_now s) (bits_now s is qs) out)
          = rw (blocks_in_lem s.mode (blocks_now s)) (rw (counted.0, bits_are) at g.done.largest) in
          let count = counted.1 in
          cc

      pub goes_on : length block ≡ 8 → Wide block → GoesOn s is qs area (counted_b t.mended t.worst) (carried_on s block t) area'
      goes_on long wide = record { out = out; fits = fits; tells = refl; state = state long wide; left = left }

  -- one cannot be
  pub halts : {area area' : List ℕ} {done : ℕ}
      → Sticks s.mode blocks (labelled s.scheme (points_from is qs 1 210)) area (bits512 s.block) (tally_of s) area' done
      → Halts s is qs area (Err (Uncorrectable done)) (stopped (Uncorrectable done) s) (replicate s.size 0 ++ drop s.size area')
  halts {area} {done = done} h =
      let k = h.stuck (tally_of s) (take s.count (bits512 s.block)) (base_taken s.mode blocks area (bits512 s.block) (tally_of s)) in
      let c = coded s.mode kept.sendable.known k.coded in
      let enough : suc k.m ≤ (s.count + sum_of s.scheme) / size
      = (le-div_iff_mul-le (block_bits_pos s.mode)).1 (omega (arith, k.whole, hand_long s kept is qs)) in
      let one : k.m < blocks_now s = omega (arith, blocks_hold, enough, k.since, k.next) in
      let wide = hopeless_wider k.hopeless (rw c.whole k.whole) [] (blocks_now s) one in
      record {
        coded = k.coded;
        block = k.m;
        hopeless = rw (append-nil, c.whole) at wide;
        stops = record {
          why = Uncorrectable done;
          told = ap (refused 9) k.since;
          tells = ap (refused 9) k.since;
          state = refl;
          left = ap (λ (w : List ℕ). replicate s.size 0 ++ w) (rw (← whole_blocks s.mode s.size kept.sendable.whole) at h.beyond);
        };
      }

-- ---- as the code does it

-- a state as bits on their way, with so many blocks done
abbrev pub stream_of : State → ℕ → Stream
stream_of s done = record {
  block = s.block;
  tally = record { count = s.count; done = done; register = s.register; mended = s.mended; worst = s.worst };
}

module _ {s : State} {stage : Stage} {is qs : List ℤ} {area : List ℕ} (h : Clean s stage is qs area) where
  abbrev kept_here : Kept s
  kept_here = h.next.staged.kept

  abbrev one_i : 256 * 1 ≤ length is
  one_i = omega (arith, h.next.long_i)

  abbrev one_q : 256 * 1 ≤ length qs
  one_q = omega (arith, h.next.long_q)

  pub ready : Ready s.scheme stage.plan (stream_of s stage.done) 1 is qs area
  ready =
      let p = kept_here.sendable in
      rw h.next.staged.far (record {
        entries = p.entries;
        summed = refl;
        sane = rw (number_of_lem s.mode p.known) (kept_sane s kept_here);
        long_i = one_i;
        long_q = one_q;
        room = rw (number_of_lem s.mode p.known) (omega (arith, h.next.room, whole_blocks s.mode s.size p.whole));
      })

  -- no point is stray, so that its bits are read
  bits_read : read_by s.scheme (points_from is qs 1 210) ≡ labelled s.scheme (points_from is qs 1 210)
  unfolding repeated
  bits_read =
      let good = kept_here.sendable.entries in
      let none = faults.none_stray good 1 (omega arith) is qs one_i one_q h.clear in
      rw (received-one is qs, append-nil s.scheme) at (none_stray good 1 is qs none)

  -- what the code takes in
  module _ (area' : List ℕ) (r : Result Stream ℕ)
      (on : TakesIn (number_of stage.plan.mode) stage.plan.blocks (read_by s.scheme (points_from is qs 1 210)) area (bits512 s.block)
      (stream_of s stage.done).tally area' r) where
    pub as_stated : TakesIn s.mode (blocks_in s.mode s.size) (labelled s.scheme (points_from is qs 1 210)) area (bits512 s.block) (tally_of s) area' r
    as_stated = rw (bits_read, h.next.staged.far, number_of_lem s.mode kept_here.sendable.known) at on

  -- the step goes on
  pub step_goes : {area' : List ℕ} (block : List ℕ) {t : Tally}
      → Enters s.mode (blocks_in s.mode s.size) (labelled s.scheme (points_from is qs 1 210)) area (bits512 s.block) (tally_of s) area' (bits512 block) t
      → length block ≡ 8 → Wide block → Taking s is qs area (counted_b t.mended t.worst) (carried_on s block t) area'
  step_goes block on long wide =
      inl (goes_on s kept_here h.next.more is qs area block on
      (on.1.taken (tally_of s) (take s.count (bits512 s.block)) (base_taken s.mode (blocks_in s.mode s.size) area (bits512 s.block) (tally_of s))) long wide)

  -- or is refused
  pub step_halts : {area' : List ℕ} {done : ℕ}
      → Sticks s.mode (blocks_in s.mode s.size) (labelled s.scheme (points_from is qs 1 210)) area (bits512 s.block) (tally_of s) area' done
      → Taking s is qs area (Err (Uncorrectable done)) (stopped (Uncorrectable done) s) (replicate s.size 0 ++ drop s.size area')
  step_halts k = inr (halts s kept_here h.next.more is qs k)
