-- Every open state that the code's test accepts is one that an opening and steps give: the OFDM symbols that lead to it, the last one first.
-- Assumes nothing.
use mathlib.Core.Path.{◌≡◌, refl, sym, ap, ap₂, subst, ◌∙◌}
use mathlib.Core.Logic.{inl}
use mathlib.Core.Bool.{true}
use mathlib.Core.List.{List, [], ◌++◌, append-nil}
use Prim.Native.Nat.{ℕ, zero, suc, ◌+◌, ◌-◌, ◌*◌, ◌≤◌, ◌<◌, min, max}
use native.Mathlib.Nat.{mul-suc, mul-add, mul-zero}
use native.Mathlib.Omega.{arith}
use borrow.Author.Tests.{lt-ltb, le-leb}
use lib.Dec.{lit<}
use lib.IntN.{ℤ}
use lib.ListN.{length, take, drop, replicate, length-append, length-drop, length-replicate, take-append-drop}
use lib.Seq.{take_at, drop_at, length-take-le}
use Rattle.answers.specs.Checks.{Checked, passes}
use Rattle.bits.specs.Words.{Bits, differ}
use Rattle.bits.proofs.Digits.{bits_take, bits_drop, bits_append}
use Rattle.bits.proofs.Copies.{bits_zeros}
use Rattle.bits.proofs.Octets.{bytes_from}
use Rattle.packed.specs.Packed.{bits512, padded, words_of}
use Rattle.packed.proofs.Once.{Wide}
use Rattle.packed.proofs.Walks.{length_512, bits_512}
use Rattle.packed.proofs.Paddings.{zeros_at}
use Rattle.packed.proofs.Wordings.{words_bits}
use Rattle.packed.proofs.Fronts.{zeros_512}
use Rattle.points.specs.declared.Point.{Point}
use Rattle.points.specs.Constellations.{level_i, level_q}
use Rattle.symbols.specs.Grids.{placed, points_from, received}
use Rattle.symbols.specs.Schemes.{Scheme, sum_of, repeated, mapped, labelled}
use Rattle.symbols.proofs.Rooms.{room_enough}
use Rattle.symbols.proofs.Readings.{received-one}
use Rattle.symbols.proofs.Placings.{length-placed, placed_occupied, received-placed}
use Rattle.symbols.proofs.Schemes.{sum_repeated, repeated_long}
use Rattle.symbols.proofs.Mapping.{length-mapped, entries_repeated, points_mapped, stray_mapped, labelled-mapped}
use Rattle.payload.specs.Scrambler.{start, register_after}
use Rattle.payload.specs.Wire.{worst_of, total, Fits}
use Rattle.payload_b.specs.CodedB.{block_bytes, block_bits, symbols_for, coded_from}
use Rattle.payload_b.specs.PromiseB.{points_checked_b}
use Rattle.payload_b.specs.PlanB.{Sendable}
use Rattle.payload_b.specs.StreamB.{
  blocks_after,
  wait_after,
  fresh,
  sound,
  Kept,
  Opens,
  step_checked,
  at_hand,
  bits_now,
  wire_now,
  onward,
  Takes,
  Steps,
  SteppingB,
}
use Rattle.payload_b.specs.StreamedB.{Given, opened, stepped}
use Rattle.payload_b.specs.declared.stream.State.{State}
use Rattle.payload_b.specs.declared.stream.Course.TheVariants.{Open}
use Rattle.payload_b.proofs.Plans.{plan_passes}
use Rattle.payload_b.proofs.Blocks.{block_whole, mends_few}
use Rattle.payload_b.proofs.Blockwise.{blocks_in_lem, bits_coded, length_coded}
use Rattle.payload_b.proofs.VerdictsB.{legal}
use Rattle.payload_b.proofs.StatesB.{
  after_none,
  after_more,
  wait_low,
  words_hold,
  words_front,
  words_behind,
  sound_kept,
  kept_sound,
  now_whole,
  hand_long,
}
use Rattle.payload_b.proofs.GivenB.{fresh_kept, onward_kept}
use Rattle.payload_b.proofs.GivenFlips.{Spoilt, spoilt}
use Rattle.answers.specs.Answers.{counted_b}

-- ---- an OFDM symbol of these bits

module _ {scheme : List ℕ} (good : Scheme scheme) (bits : List ℕ) (long : length bits ≡ sum_of scheme) (each : Bits bits) where
  abbrev points : List Point
  points = mapped (repeated 1 scheme) bits

  abbrev symbol_of : (Point → ℤ) → List ℤ
  symbol_of level = placed level 1 points

  points_back : received 1 (symbol_of level_i) (symbol_of level_q) ≡ points
  points_back =
      received-placed 1 points (length-mapped (repeated 1 scheme) bits ∙ repeated_long scheme good.long 1)
      (points_mapped (repeated 1 scheme) bits (entries_repeated good 1) each)

  scheme_once : repeated 1 scheme ≡ scheme
  unfolding repeated
  scheme_once = append-nil scheme

  symbol_long : (level : Point → ℤ) → 256 ≤ length (symbol_of level)
  symbol_long level = omega (arith, length-placed level 1 points)

  -- its points are read as these bits
  symbol_read : labelled scheme (points_from (symbol_of level_i) (symbol_of level_q) 1 210) ≡ bits
  symbol_read =
      ap₂ labelled (sym scheme_once) (sym (received-one (symbol_of level_i) (symbol_of level_q)) ∙ points_back)
      ∙ labelled-mapped (repeated 1 scheme) bits (entries_repeated good 1) each (long ∙ omega (arith, sum_repeated scheme 1))

  -- and pass 7 and 8
  symbol_legal : (P : Checked Unit → Type 0) → P (passes tt) → P (points_checked_b 1 scheme (symbol_of level_i) (symbol_of level_q))
  symbol_legal P =
      legal P 1 scheme (symbol_of level_i) (symbol_of level_q) (omega (arith, placed_occupied 1 points))
      (rw points_back (omega (arith, stray_mapped (repeated 1 scheme) bits (entries_repeated good 1) each, repeated_long scheme good.long 1)))

-- ---- what the blocks before have of the bits mended, and what those now

module _ (largest mended done : ℕ) where
  abbrev mended_before : ℕ
  mended_before = min mended (largest * done)

  abbrev worst_before : ℕ
  worst_before = min largest mended_before

  abbrev mended_now : ℕ
  mended_now = mended - mended_before

  module _ (now : ℕ) (least : largest ≤ mended) (most : mended ≤ largest * (done + now)) where
    most_before : mended_before ≤ worst_before * done
    most_before = by done
      where
        by : (d : ℕ) → min mended (largest * d) ≤ min largest (min mended (largest * d)) * d
        by zero = omega (arith, mul-zero largest)
        by (suc d) = let e : min largest (min mended (largest * suc d)) ≡ largest = omega (arith, mul-suc largest d) in rw e (omega arith)

    most_now : mended_now ≤ largest * now
    most_now = omega (arith, mul-add largest done now)

    worst_both : max worst_before (min largest mended_now) ≡ largest
    worst_both = by done most
      where
        by : (d : ℕ) → mended ≤ largest * (d + now) → max (min largest (min mended (largest * d))) (min largest (mended - min mended (largest * d))) ≡ largest
        by zero l = omega (arith, mul-zero largest)
        by (suc d) l = omega (arith, mul-suc largest d)

-- ---- states of a frame

module _ {mode n : ℕ} {scheme : List ℕ} (sendable : Sendable mode n scheme) where
  -- so many OFDM symbols are seen, these machine words hold the bits that wait, and so many are mended
  abbrev seen_so : ℕ → List ℕ → ℕ → ℕ → State
  seen_so k block mended worst = record {
    scheme = scheme;
    block = block;
    count = wait_after mode n scheme k;
    mode = mode;
    size = n;
    seen = k;
    register = register_after (8 * (block_bytes mode * blocks_after mode n scheme k)) start;
    mended = mended;
    worst = worst;
    course = Open;
  }

  -- ---- before the last OFDM symbol

  module _ (k : ℕ) (block : List ℕ) (mended largest : ℕ) (kept : Kept (seen_so (suc k) block mended largest)) (held : words_of 8 (bits512 block) ≡ block) where
    abbrev done : ℕ
    done = blocks_after mode n scheme k

    abbrev now : ℕ
    now = blocks_after mode n scheme (suc k) - done

    abbrev wait : ℕ
    wait = wait_after mode n scheme k

    abbrev register : ℕ
    register = register_after (8 * (block_bytes mode * done)) start

    abbrev out : List ℕ
    out = replicate (block_bytes mode * now) 0

    abbrev sent : List ℕ
    sent = coded_from mode register out

    sent_long : length sent ≡ block_bits mode * now
    sent_long = length_coded mode register now out (length-replicate (block_bytes mode * now) 0)

    most : mended ≤ largest * (done + now)
    most =
        let e : blocks_after mode n scheme (suc k) ≡ done + now = omega (arith, after_more sendable k) in
        subst (λ (m : ℕ). mended ≤ largest * m) e kept.most

    -- the blocks now, as they are received
    wrong : Spoilt (block_bits mode) largest now sent (mended_now largest mended done)
    wrong =
        spoilt (block_bits mode) largest (omega (arith, kept.near, mends_few mode, block_whole mode)) now sent sent_long (bits_coded mode register out)
        (mended_now largest mended done) (most_now largest mended done now kept.least most)

    -- behind them the bits that wait, and fill
    abbrev next : ℕ
    next = wait_after mode n scheme (suc k)

    abbrev waiting : List ℕ
    waiting = take next (bits512 block)

    waiting_long : length waiting ≡ next
    waiting_long = length-take-le next (bits512 block) (omega (arith, length_512 block, wait_low sendable (suc k)))

    abbrev fill : List ℕ
    fill = replicate (wait + sum_of scheme - (block_bits mode * now + next)) 0

    abbrev hand : List ℕ
    hand = wrong.word ++ (waiting ++ fill)

    hand_bits : Bits hand
    hand_bits =
        bits_append wrong.word (waiting ++ fill) wrong.each
        (bits_append waiting fill (bits_take next (bits512 block) (bits_512 block)) (bits_zeros (wait + sum_of scheme - (block_bits mode * now + next))))

    hand_is : length hand ≡ max (wait + sum_of scheme) (block_bits mode * now + next)
    hand_is =
        length-append wrong.word (waiting ++ fill)
        ∙ omega (
          arith,
          wrong.long,
          waiting_long,
          length-append waiting fill,
          length-replicate {A = ℕ} (wait + sum_of scheme - (block_bits mode * now + next)) 0,
        )

    -- the state before
    abbrev front : List ℕ
    front = take wait hand

    front_long : length front ≡ wait
    front_long = length-take-le wait hand (omega (arith, hand_is))

    abbrev before : State
    before = seen_so k (words_of 8 (padded front)) (mended_before largest mended done) (worst_before largest mended done)

    before_kept : Kept before
    before_kept = record {
      sendable = sendable;
      within = omega (arith, kept.within);
      waits = refl;
      carried = refl;
      behind = words_behind front wait front_long (wait_low sendable k) (bits_take wait hand hand_bits);
      near = omega (arith, kept.near);
      least = omega arith;
      most = most_before largest mended done now kept.least most;
    }

    before_held : words_of 8 (bits512 before.block) ≡ before.block
    before_held = ap (words_of 8) (words_hold front wait front_long (wait_low sendable k) (bits_take wait hand hand_bits))

    -- ---- the last OFDM symbol

    abbrev bits : List ℕ
    bits = drop wait hand

    bits_long : length bits ≡ sum_of scheme
    bits_long = length-drop wait hand ∙ omega (arith, hand_is, now_whole before before_kept [] [], hand_long before before_kept [] [])

    bits_each : Bits bits
    bits_each = bits_drop wait hand hand_bits

    abbrev is : List ℤ
    is = symbol_of sendable.entries bits bits_long bits_each level_i

    abbrev qs : List ℤ
    qs = symbol_of sendable.entries bits bits_long bits_each level_q

    at_hand_lem : at_hand before is qs ≡ hand
    at_hand_lem =
        ap₂ ◌++◌ (words_front front wait front_long (wait_low sendable k) (bits_take wait hand hand_bits))
        (symbol_read sendable.entries bits bits_long bits_each)
        ∙ take-append-drop wait hand

    bits_now_lem : bits_now before is qs ≡ wrong.word
    bits_now_lem = ap (take (block_bits mode * now)) at_hand_lem ∙ take_at wrong.word (waiting ++ fill) (block_bits mode * now) wrong.long

    fits : Fits (wire_now before) (bits_now before is qs) out
    fits = record {
      long = length-replicate (block_bytes mode * now) 0;
      bytes = bytes_from out (λ i. omega (arith, zeros_at (block_bytes mode * now) i));
      near = λ b l. rw bits_now_lem (omega (arith, wrong.near b (rw (blocks_in_lem mode now) at l), kept.near));
    }

    block_is : block ≡ (onward before is qs out).block
    block_is =
        sym held
        ∙ ap (words_of 8) (kept.behind
        ∙ ap padded (sym (ap (λ (l : List ℕ). take next (drop (block_bits mode * now) l)) at_hand_lem
        ∙ ap (take next) (drop_at wrong.word (waiting ++ fill) (block_bits mode * now) wrong.long)
        ∙ take_at waiting fill next waiting_long)))

    few : k < symbols_for mode n scheme
    few = omega (arith, kept.within)

    register-is : register_after (8 * (block_bytes mode * blocks_after mode n scheme (suc k))) start ≡ (onward before is qs out).register
    register-is = sym (onward_kept before before_kept is qs few out fits).carried

    mended_is : mended ≡ (onward before is qs out).mended
    mended_is =
        let e : total (wire_now before) (bits_now before is qs) out ≡ mended_now largest mended done = ap (differ sent) bits_now_lem ∙ wrong.differs in
        omega (arith, e)

    worst_is : largest ≡ (onward before is qs out).worst
    worst_is =
        sym (ap (max (worst_before largest mended done))
        (ap₂ (λ (m : ℕ) (l : List ℕ). worst_of (block_bits mode) m sent l) (blocks_in_lem mode now) bits_now_lem ∙ wrong.largest)
        ∙ worst_both largest mended done now kept.least most)

    state_is : seen_so (suc k) block mended largest ≡ onward before is qs out
    state_is = λ i. record {
      scheme = scheme;
      block = block_is i;
      count = next;
      mode = mode;
      size = n;
      seen = suc k;
      register = register-is i;
      mended = mended_is i;
      worst = worst_is i;
      course = Open;
    }

    abbrev area : List ℕ
    area = replicate n 0

    abbrev area' : List ℕ
    area' = take (block_bytes mode * done) area ++ (out ++ drop (block_bytes mode * blocks_after mode n scheme (suc k)) area)

    passed : step_checked Open before is qs area ≡ passes tt
    passed =
        rw (
          kept_sound before before_kept,
          lt-ltb k (symbols_for mode n scheme) few,
          ← room_enough 256 is qs (symbol_long sendable.entries bits bits_long bits_each level_i)
              (symbol_long sendable.entries bits bits_long bits_each level_q),
          length-replicate {A = ℕ} n 0,
          le-leb n n (omega arith),
        )
        refl

    -- it leads to the state
    leads : SteppingB before is qs area (counted_b mended largest) (seen_so (suc k) block mended largest) area'
    leads =
        subst (λ (c : Checked Unit). Steps c before is qs area (counted_b mended largest) (seen_so (suc k) block mended largest) area') (sym passed)
        (symbol_legal sendable.entries bits bits_long bits_each
        (λ (c : Checked Unit). Takes c before is qs area (counted_b mended largest) (seen_so (suc k) block mended largest) area')
        (inl (record { out = out; fits = fits; tells = refl; state = state_is; left = refl })))

  -- ---- every one is given

  -- nothing seen yet: it is the state that an opening gives
  module _ (block : List ℕ) (mended largest : ℕ) (kept : Kept (seen_so 0 block mended largest)) (held : words_of 8 (bits512 block) ≡ block) where
    none_mended : mended ≡ 0
    none_mended = omega (arith, kept.most, ap (λ (m : ℕ). largest * m) (after_none sendable))

    none_worst : largest ≡ 0
    none_worst = omega (arith, kept.least, none_mended)

    zero_words : block ≡ replicate 8 0
    zero_words =
        let none : padded (take (wait_after mode n scheme 0) (bits512 block)) ≡ padded []
        = ap (λ (m : ℕ). padded (take m (bits512 block))) (sym (fresh_kept sendable).waits) in
        sym held ∙ ap (words_of 8) (kept.behind ∙ none ∙ sym zeros_512) ∙ words_bits (replicate 8 0) refl (λ i. rw (zeros_at 8 i) (lit< tt))

    first_is : seen_so 0 block mended largest ≡ fresh mode n scheme
    first_is = λ i. record {
      scheme = scheme;
      block = zero_words i;
      count = sym (fresh_kept sendable).waits i;
      mode = mode;
      size = n;
      seen = 0;
      register = sym (fresh_kept sendable).carried i;
      mended = none_mended i;
      worst = none_worst i;
      course = Open;
    }

    first_given : Given (seen_so 0 block mended largest)
    first_given =
        opened mode n scheme
        (subst (λ (c : Checked Unit). Opens c mode n scheme (seen_so 0 block mended largest)) (sym (plan_passes sendable (passes tt))) first_is)

  reached : (k : ℕ) (block : List ℕ) (mended largest : ℕ) → Kept (seen_so k block mended largest) → words_of 8 (bits512 block) ≡ block
      → Given (seen_so k block mended largest)
  reached zero block mended largest kept held = first_given block mended largest kept held
  reached (suc k) block mended largest kept held =
      let b = before k block mended largest kept held in
      stepped (is k block mended largest kept held) (qs k block mended largest kept held) (area k block mended largest kept held)
      (area' k block mended largest kept held) (counted_b mended largest)
      (reached k b.block b.mended b.worst (before_kept k block mended largest kept held) (before_held k block mended largest kept held))
      (leads k block mended largest kept held)

-- a state that the test accepts is given: what is asked of its machine words holds of every value of the type
pub sound_given : (s : State) → length s.block ≡ 8 → Wide s.block → s.course ≡ Open → sound s ≡ true → Given s
sound_given s long wide course e =
    let kept = sound_kept s e in
    let same : s ≡ seen_so kept.sendable s.seen s.block s.mended s.worst = λ i. record {
      scheme = s.scheme;
      block = s.block;
      count = kept.waits i;
      mode = s.mode;
      size = s.size;
      seen = s.seen;
      register = kept.carried i;
      mended = s.mended;
      worst = s.worst;
      course = course i;
    } in
    subst Given (sym same)
    (reached kept.sendable s.seen s.block s.mended s.worst (subst Kept same kept) (words_bits s.block long wide))
