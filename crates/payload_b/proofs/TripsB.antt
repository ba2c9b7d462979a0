-- Payload B there and back: a frame goes up exactly when each block of it is within t; where points are accepted, sending the frame again gives the
-- bits received but for those counted, in all and in the worst block; and clean points give the frame that was sent, in every mode and scheme (demand 2;
-- document 02, item 8).
-- Assumes nothing.
use mathlib.Core.Path.{◌≡◌, refl, sym, ap, ap₂, ◌∙◌}
use mathlib.Core.Logic.{inl, inr}
use mathlib.Core.Bool.{◌&&◌}
use mathlib.Core.List.{List, ◌++◌}
use Prim.Native.Nat.{ℕ, ◌-◌, ◌*◌, ◌≤◌, ◌<◌}
use native.Mathlib.Omega.{arith}
use lib.Dec.{leb, ltb}
use lib.IntN.{ℤ}
use lib.ListN.{length, take, drop, length-append, length-replicate}
use lib.Seq.{take_all, take_at}
use Rattle.answers.specs.Answers.{accepted, of_written, of_received_b, ReceivedB, Written, counted_b}
use Rattle.answers.specs.Checks.{Checked, fails, passes}
use Rattle.answers.specs.declared.Told.{Told}
use Rattle.answers.proofs.Telling.{because_is, received_b_same, by_test, not_refused}
use Rattle.bits.specs.Words.{Bits, differ}
use Rattle.bits.specs.Bytes.{Bytes}
use Rattle.bits.proofs.Distances.{differ_self}
use Rattle.bits.proofs.Digits.{bits_append}
use Rattle.bits.proofs.Copies.{bits_zeros}
use Rattle.points.specs.declared.Point.{Point}
use Rattle.points.specs.Constellations.{level_i, level_q}
use Rattle.symbols.specs.Grids.{received, first_occupied, room}
use Rattle.symbols.proofs.Rooms.{room_enough}
use Rattle.symbols.proofs.Readings.{received-take, occupied_take}
use Rattle.symbols.proofs.Placings.{length-placed, placed_occupied, received-placed}
use Rattle.payload.specs.Scrambler.{start}
use Rattle.payload.specs.Wire.{count_at, worst_of, total, worst}
use Rattle.payload.proofs.Wires.{fits_clean}
use Rattle.payload.proofs.LineQuality.{Quality, quality, quality_told, none_mended, worst_self}
use Rattle.payload_b.specs.CodedB.{block_bits, blocks_in, bits_for, coded_b, symbols_for, filled_up, points_b, sent_b}
use Rattle.symbols.specs.Schemes.{sum_of, repeated, mapped, labelled, stray_in}
use Rattle.payload_b.specs.PromiseB.{SendsB, SendingB, grid_checked, bits_received, mends_b, wire_b, GoesB, ReceivesB, ReceivingB}
use Rattle.payload_b.specs.PlanB.{Sendable}
use Rattle.symbols.proofs.Schemes.{sum_repeated, repeated_long}
use Rattle.symbols.proofs.Mapping.{length-mapped, entries_repeated, points_mapped, stray_mapped, labelled-mapped}
use Rattle.payload_b.proofs.Plans.{some_blocks, symbols_hold}
use Rattle.payload_b.proofs.Blockwise.{bits_coded, length-coded_b}
use Rattle.payload_b.proofs.VerdictsB.{receivable, legal}
use Rattle.payload_b.proofs.OnceB.{by_plan, length_bits, receive_b_once}
use Rattle.std.specs.Prelude.{Ok, Err}

-- ---- what is sent for a frame, read back

module _ (mode : ℕ) (frame scheme : List ℕ) where
  abbrev m : ℕ
  m = symbols_for mode (length frame) scheme

  sent_long : (level : Point → ℤ) → length (sent_b level mode frame scheme) ≡ 256 * m
  unfolding sent_b
  sent_long level = length-placed level m (points_b mode frame scheme)

  -- it stands at the front of two lists
  module _ (sendable : Sendable mode (length frame) scheme) (is qs : List ℤ) (i : take (256 * m) is ≡ sent_b level_i mode frame scheme)
      (q : take (256 * m) qs ≡ sent_b level_q mode frame scheme) where
    abbrev filled : List ℕ
    filled = filled_up (sum_of scheme * m) (coded_b mode frame)

    coded_long : length (coded_b mode frame) ≡ bits_for mode (length frame)
    coded_long = length-coded_b mode frame sendable.whole

    filled_long : length filled ≡ sum_of scheme * m
    filled_long = rw (length-append, length-replicate) (omega (arith, coded_long, symbols_hold sendable))

    filled_bits : Bits filled
    filled_bits = bits_append (coded_b mode frame) _ (bits_coded mode start frame) (bits_zeros (sum_of scheme * m - length (coded_b mode frame)))

    points_back : received m is qs ≡ mapped (repeated m scheme) filled
    unfolding sent_b points_b
    points_back =
        sym (received-take m (256 * m) is qs (omega arith)) ∙ ap₂ (received m) i q
        ∙ received-placed m (mapped (repeated m scheme) filled) (length-mapped (repeated m scheme) filled ∙ repeated_long scheme sendable.entries.long m)
        (points_mapped (repeated m scheme) filled (entries_repeated sendable.entries m) filled_bits)

    -- the bits of the points, the fill left out
    bits_back : bits_received mode (length frame) scheme is qs ≡ coded_b mode frame
    bits_back =
        ap (take (bits_for mode (length frame))) (ap (labelled (repeated m scheme)) points_back
        ∙ labelled-mapped (repeated m scheme) filled (entries_repeated sendable.entries m) filled_bits (filled_long ∙ sym (sum_repeated scheme m)))
        ∙ take_at (coded_b mode frame) _ (bits_for mode (length frame)) coded_long

    none_stray : stray_in (repeated m scheme) (received m is qs) ≡ 210 * m
    none_stray =
        ap (stray_in (repeated m scheme)) points_back ∙ stray_mapped (repeated m scheme) filled (entries_repeated sendable.entries m) filled_bits
        ∙ repeated_long scheme sendable.entries.long m

    none_occupied : first_occupied is qs 0 (256 * m) ≡ 256 * m
    unfolding sent_b
    none_occupied =
        sym (occupied_take (256 * m) is qs 0 (256 * m) (omega arith)) ∙ ap₂ (λ (is qs : List ℤ). first_occupied is qs 0 (256 * m)) i q
        ∙ placed_occupied m (points_b mode frame scheme)

-- ---- where points are accepted

module _ (mode n : ℕ) (scheme : List ℕ) (is qs : List ℤ) (area : List ℕ) (answer : ReceivedB) (after : List ℕ)
    (receiving : ReceivingB mode n scheme is qs area answer after) (mended worst : ℕ) (tells : of_received_b answer ≡ accepted mended 0 worst) where
  abbrev bits : List ℕ
  bits = bits_received mode n scheme is qs

  abbrev Up : Type 0
  Up = Sendable mode n scheme × GoesB mode n bits area answer after

  goes : Up
  goes = by_plan P mode n scheme (grid_checked m n scheme is qs area) failed by_grid receiving
    where
      m : ℕ
      m = symbols_for mode n scheme

      P : Checked Unit → Type 0
      P k = ReceivesB k mode n bits area answer after → Up

      failed : (number place : ℕ) → 0 < number → P (fails number place)
      failed number place l p = absurd (not_refused tells p.0 l)

      answered : Sendable mode n scheme → P (passes tt)
      answered sendable (inl p) = (sendable, p)
      answered sendable (inr p) = absurd (not_refused tells p.tells (omega arith))

      by_grid : Sendable mode n scheme → P (grid_checked m n scheme is qs area)
      by_grid sendable =
          by_test P (room (256 * m) is qs && leb n (length area))
          (λ _. by_test P (ltb (first_occupied is qs 0 (256 * m)) (256 * m)) (λ _. failed 7 _ (omega arith))
          (λ _. by_test P (ltb (stray_in (repeated m scheme) (received m is qs)) (210 * m)) (λ _. failed 8 _ (omega arith)) (λ _. answered sendable)))
          (λ _. failed 3 0 (omega arith))

  up_is : take n after ≡ goes.1.frame
  up_is = ap (take n) goes.1.left ∙ take_at goes.1.frame (drop n area) n goes.1.fits.long

  -- length and scheme pass the checks 1, 2, 5 and 6
  pub up_sendable : Sendable mode n scheme
  up_sendable = goes.0

  -- the bits that sending that frame again gives
  abbrev resent : List ℕ
  resent = bits_received mode n scheme (sent_b level_i mode (take n after) scheme) (sent_b level_q mode (take n after) scheme)

  -- they are the bits received, but for those counted as mended, in all and in the worst block
  pub sent_again : (differ resent bits ≡ mended) × (worst_of (block_bits mode) (blocks_in mode n) resent bits ≡ worst)
  sent_again =
      let f = goes.1.frame in
      let long = goes.1.fits.long in
      let many = 256 * symbols_for mode (length f) scheme in
      let all : (level : Point → ℤ) → take many (sent_b level mode f scheme) ≡ sent_b level mode f scheme
      = λ level. take_all many (sent_b level mode f scheme) (omega (arith, sent_long mode f scheme level)) in
      let back : bits_received mode n scheme (sent_b level_i mode f scheme) (sent_b level_q mode f scheme) ≡ coded_b mode f
      = rw long at (bits_back mode f scheme (rw long goes.0) _ _ (all level_i) (all level_q)) in
      let counts = sym goes.1.tells ∙ tells in
      rw up_is (
        ap (λ (w : List ℕ). differ w bits) back ∙ ap (λ (t : Told). t.mended) counts,
        ap (λ (w : List ℕ). worst_of (block_bits mode) (blocks_in mode n) w bits) back ∙ ap (λ (t : Told). t.worst) counts,
      )

  -- what mended and worst say of the blocks of the frame that went up
  pub quality_b : Quality (wire_b mode n) bits (take n after) mended worst
  quality_b =
      let f = goes.1.frame in
      let long = goes.1.fits.long in
      let counts = sym goes.1.tells ∙ tells in
      quality_told up_is (ap (λ (t : Told). t.mended) counts) (ap (λ (t : Told). t.worst) counts)
      (quality (wire_b mode n) bits f (some_blocks goes.0) (rw long at (length-coded_b mode f (rw long goes.0.whole))) (length_bits goes.0 is qs) goes.1.fits)

-- an uncoded answer counts nothing mended, accepted or refused
pub uncoded_counts : (n : ℕ) (scheme : List ℕ) (is qs : List ℤ) (area : List ℕ) (answer : ReceivedB) (after : List ℕ)
    → ReceivingB 0 n scheme is qs area answer after → ((of_received_b answer).mended ≡ 0) × ((of_received_b answer).worst ≡ 0)
uncoded_counts n scheme is qs area (Ok counts) after receiving =
    none_mended (quality_b 0 n scheme is qs area (Ok counts) after receiving counts.mended counts.worst refl) refl
uncoded_counts n scheme is qs area (Err why) after receiving =
    let t = because_is why in (ap (λ (told : Told). told.mended) t, ap (λ (told : Told). told.worst) t)

-- ---- a frame goes up exactly when it fits

-- a call of legal lengths and scheme, with legal points and empty unavailable sub-carriers
pub record LegalB (mode n : ℕ) (scheme : List ℕ) (is qs : List ℤ) (area : List ℕ) : Type 0 where
  pub sendable : Sendable mode n scheme
  pub long_i : 256 * symbols_for mode n scheme ≤ length is
  pub long_q : 256 * symbols_for mode n scheme ≤ length qs
  pub room : n ≤ length area
  pub empty : first_occupied is qs 0 (256 * symbols_for mode n scheme) ≡ 256 * symbols_for mode n scheme
  pub legal : stray_in (repeated (symbols_for mode n scheme) scheme) (received (symbols_for mode n scheme) is qs) ≡ 210 * symbols_for mode n scheme

-- a frame goes up: the call is accepted, with so many bits mended, in all and in the worst block, and the frame stands at the front of the area
abbrev pub GoesUpB : ℕ → List ℕ → ReceivedB → List ℕ → List ℕ → ℕ → ℕ → Type 0
GoesUpB n area answer after frame mended worst = (of_received_b answer ≡ accepted mended 0 worst) × (after ≡ frame ++ drop n area)

module _ (mode n : ℕ) (scheme : List ℕ) (is qs : List ℤ) (area : List ℕ) (call : LegalB mode n scheme is qs area) (answer : ReceivedB) (after : List ℕ)
    (receiving : ReceivingB mode n scheme is qs area answer after) (frame : List ℕ) (bytes : Bytes frame) (long : length frame ≡ n) where
  abbrev word : List ℕ
  word = bits_received mode n scheme is qs

  -- each block sent differs from the one received in at most t places
  abbrev Near : Type 0
  Near = (b : ℕ) → b < blocks_in mode n → count_at (block_bits mode) b (coded_b mode frame) word ≤ mends_b mode

  pub up_when_near : Near → GoesUpB n area answer after frame (total (wire_b mode n) word frame) (worst (wire_b mode n) word frame)
  up_when_near near =
      let m = symbols_for mode n scheme in
      let there : ReceivingB mode n scheme is qs area made (frame ++ drop n area)
      = receivable P call.sendable is qs area (room_enough (256 * m) is qs call.long_i call.long_q) call.room
      (legal P m scheme is qs (omega (arith, call.empty)) (omega (arith, call.legal))
      (inl (record { frame = frame; fits = record { long = long; bytes = bytes; near = near }; tells = refl; left = refl }))) in
      let same = receive_b_once area answer _ after _ mode n scheme is qs receiving there in
      (ap of_received_b same.0, same.1)
    where
      made : ReceivedB
      made = counted_b (total (wire_b mode n) word frame) (worst (wire_b mode n) word frame)

      P : Checked Unit → Type 0
      P k = ReceivesB k mode n word area made (frame ++ drop n area)

  pub near_when_up : (mended worst : ℕ) → GoesUpB n area answer after frame mended worst → Near
  near_when_up mended worst up =
      let g = goes mode n scheme is qs area answer after receiving mended worst up.0 in
      let same : g.1.frame ≡ frame
      = sym (up_is mode n scheme is qs area answer after receiving mended worst up.0) ∙ ap (take n) up.1 ∙ take_at frame (drop n area) n long in
      rw same at g.1.fits.near

-- ---- clean points

module _ (mode : ℕ) (frame scheme : List ℕ) (is qs : List ℤ) (sent : Written) (is' qs' : List ℤ) (sending : SendingB mode frame scheme is qs sent is' qs')
    (written : of_written sent ≡ accepted 0 0 0) where
  abbrev symbols : ℕ
  symbols = symbols_for mode (length frame) scheme

  abbrev Made : Type 0
  Made =
      Sendable mode (length frame) scheme × (is' ≡ sent_b level_i mode frame scheme ++ drop (256 * symbols) is)
      × (qs' ≡ sent_b level_q mode frame scheme ++ drop (256 * symbols) qs)

  made : Made
  made =
      by_plan P mode (length frame) scheme _ failed (λ sendable. by_test P (room (256 * symbols) is qs) (λ _ p. (sendable, p.1, p.2)) (λ _. failed 3 0 (omega arith)))
      sending
    where
      P : Checked Unit → Type 0
      P k = SendsB k mode frame scheme is qs sent is' qs' → Made

      failed : (number place : ℕ) → 0 < number → P (fails number place)
      failed number place l p = absurd (not_refused written p.0 l)

  -- what was sent stands at the front
  front : (level : Point → ℤ) (old new : List ℤ) → new ≡ sent_b level mode frame scheme ++ drop (256 * symbols) old
      → (take (256 * symbols) new ≡ sent_b level mode frame scheme) × (256 * symbols ≤ length new)
  front level old new e =
      let w = sent_b level mode frame scheme in
      let rest = drop (256 * symbols) old in
      let long = sent_long mode frame scheme level in
      (ap (take (256 * symbols)) e ∙ take_at w rest (256 * symbols) long, omega (arith, ap length e, length-append w rest, long))

  module _ (bytes : Bytes frame) (area : List ℕ) (roomy : length frame ≤ length area) (answer : ReceivedB) (after : List ℕ)
      (receiving : ReceivingB mode (length frame) scheme is' qs' area answer after) where
    -- clean points give back the frame that was sent, with nothing mended
    pub round_trip : (answer ≡ counted_b 0 0) × (after ≡ frame ++ drop (length frame) area)
    round_trip =
        let sendable = made.0 in
        let i = front level_i is is' made.1 in
        let q = front level_q qs qs' made.2 in
        let same = bits_back mode frame scheme sendable is' qs' i.0 q.0 in
        let call : LegalB mode (length frame) scheme is' qs' area = record {
          sendable = sendable;
          long_i = i.1;
          long_q = q.1;
          room = roomy;
          empty = none_occupied mode frame scheme sendable is' qs' i.0 q.0;
          legal = none_stray mode frame scheme sendable is' qs' i.0 q.0;
        } in
        let up = up_when_near mode (length frame) scheme is' qs' area call answer after receiving frame bytes refl
        (rw same (fits_clean (wire_b mode (length frame)) frame refl bytes).near) in
        let none : differ (coded_b mode frame) (bits_received mode (length frame) scheme is' qs') ≡ 0 = rw same (differ_self (coded_b mode frame)) in
        let clean : worst (wire_b mode (length frame)) (bits_received mode (length frame) scheme is' qs') frame ≡ 0
        = rw same (worst_self (block_bits mode) (blocks_in mode (length frame)) (coded_b mode frame)) in
        (received_b_same answer (counted_b 0 0) (up.0 ∙ ap₂ (λ (k j : ℕ). accepted k 0 j) none clean), up.1)
