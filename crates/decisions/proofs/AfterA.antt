-- Payload A over decided points: what deciding writes is legal, so that receiving it answers neither 7 nor 8; a frame goes up exactly when each block sent is
-- near enough to the one decided and the burst is no noise; and where each point is moved by less than half the least distance of DQPSK, the frame that was
-- sent goes up, with nothing mended (demands 2 and 3; document 02, item 1).
-- Assumes nothing.
use mathlib.Core.Path.{◌≡◌, refl, sym, ap, subst, ◌∙◌}
use mathlib.Core.Logic.{◌≢◌, inl, inr}
use mathlib.Core.Bool.{true, false, ◌&&◌, and-eq-true_iff}
use mathlib.Core.List.{List, [], ◌++◌, map}
use Prim.Native.Nat.{ℕ, ◌≤◌, ◌<◌}
use native.Mathlib.Omega.{arith}
use borrow.Author.Tests.{leb-true, eqb-true, ltb-true}
use lib.Dec.{eqb, leb, ltb}
use lib.IntN.{ℤ}
use lib.ListN.{length, get_or, drop, length-replicate, get_or-replicate}
use Rattle.answers.specs.Answers.{accepted, of_written, of_received_a, Written}
use Rattle.answers.specs.Checks.{Checked, fails}
use Rattle.answers.specs.declared.Told.{Told}
use Rattle.answers.specs.declared.ReceivedBurst.{ReceivedBurst}
use Rattle.answers.proofs.Telling.{burst_told, by_test, not_refused}
use Rattle.ground.proofs.Firsts.{first_none}
use Rattle.bits.specs.Bytes.{Bytes}
use Rattle.points.specs.declared.Point.{Point}
use Rattle.points.specs.declared.Point.TheVariants.{At, Nothing}
use Rattle.points.specs.Constellations.{is_stray, level_i, level_q}
use Rattle.points.specs.Dqpsk.{phases, phase_of, dibits, stray_at}
use Rattle.points.proofs.Turns.{length-turned, legal_turned, legal_before}
use Rattle.nearest.specs.Nearest.{nearest}
use Rattle.nearest.specs.Margins.{Spaced}
use Rattle.nearest.proofs.Spacings.{spaced_phases}
use Rattle.symbols.specs.Grids.{placed, received, first_occupied, room}
use Rattle.symbols.proofs.Readings.{length-received}
use Rattle.symbols.proofs.Placings.{Points}
use Rattle.payload.specs.Wire.{count_at, total, worst}
use Rattle.payload_a.specs.Segments.{row_bits, framed, carried, protected_differing, most_differing}
use Rattle.payload_a.specs.CodedA.{bytes_a, coded_a, points_a, sent_i, sent_q}
use Rattle.payload_a.specs.PromiseA.{elements_a, point_count_a, Sends, SendingA, wire_a, Answered, Receives, ReceivingA}
use Rattle.payload_a.proofs.Coding.{length-coded_a}
use Rattle.payload_a.proofs.Framing.{length-framed}
use Rattle.payload_a.proofs.VerdictsA.{sendable}
use Rattle.payload_a.proofs.TripsA as trips
use Rattle.payload_a.proofs.TripsA.{NoNoise, burst_of, Legal, GoesUp, round_trip}
use Rattle.symbols.proofs.Leading.{front_room, front_back, front_empty}
use Rattle.decisions.specs.Decided.{decided, phase_tables}
use Rattle.decisions.specs.Deciding.{Decides, DecidingA}
use Rattle.decisions.specs.Moves.{AllMoved, fine}
use Rattle.decisions.proofs.Tables.{length-decided}
use Rattle.decisions.proofs.Moves.{Among, moved_kept, fine_moved, decided_each, phase_there, phase_point, nearest_phase_legal, nearest_phase_at}
use Rattle.decisions.proofs.Moves.{phases_four}
use Rattle.std.specs.Prelude.{Ok}

-- ---- the tables of DQPSK

tables_long : length (phase_tables point_count_a) ≡ 420
tables_long = length-replicate point_count_a phases

table_at : (k : ℕ) → k < 420 → get_or (phase_tables point_count_a) k [] ≡ phases
table_at k h = get_or-replicate point_count_a k phases [] h

-- ---- the points sent for a frame

module _ (mode : ℕ) (frame : List ℕ) (known : mode ≤ 1) (long : length frame ≡ bytes_a mode) where
  sent_many : length (points_a mode frame) ≡ 420
  unfolding points_a
  sent_many = length-turned (framed (coded_a mode frame)) 420 (length-framed (coded_a mode frame) (length-coded_a mode frame known long))

  -- each is one of the four phases
  sent_phase : (k : ℕ) → k < 420 → (l : ℕ) × (l < 4) × (get_or (points_a mode frame) k Nothing ≡ get_or phases l Nothing)
  unfolding points_a
  sent_phase k h =
      phase_there _ (legal_before (points_a mode frame) k (omega (arith, legal_turned (framed (coded_a mode frame)), sent_many)))

  sent_points : Points (points_a mode frame)
  sent_points k h =
      let one = sent_phase k (omega (arith, sent_many)) in
      rw one.2 (phase_point one.0 one.1)

-- ---- deciding that is accepted

module _ (mode : ℕ) (is qs out_i out_q : List ℤ) (answer : Written) (out_i' out_q' : List ℤ)
    (deciding : DecidingA mode is qs out_i out_q answer out_i' out_q') (done : of_written answer ≡ accepted 0 0 0) where
  -- the points decided
  abbrev pub decided_a : List Point
  decided_a = decided (phase_tables point_count_a) (received 2 is qs)

  -- the mode is known, there is room, and the points stand at the front of both lists
  abbrev Made : Type 0
  Made = (mode ≤ 1) × (true ≡ room elements_a out_i out_q)
      × (out_i' ≡ placed level_i 2 decided_a ++ drop elements_a out_i) × (out_q' ≡ placed level_q 2 decided_a ++ drop elements_a out_q)

  made : Made
  made =
      by_test P (leb mode 1)
      (λ k. by_test P (room elements_a is qs && room elements_a out_i out_q)
      (λ e p. (leb-true mode 1 k, sym ((and-eq-true_iff (room elements_a is qs) (room elements_a out_i out_q)).0 e).1, p.1, p.2)) (failed 3 (omega arith)))
      (failed 1 (omega arith)) deciding
    where
      P : Checked Unit → Type 0
      P k = Decides k (phase_tables point_count_a) 2 is qs out_i out_q answer out_i' out_q' → Made

      failed : {A : Type 0} (number : ℕ) → 0 < number → A → P (fails number 0)
      failed number l _ p = absurd (not_refused done p.0 l)

  many_read : length (received 2 is qs) ≡ length (phase_tables point_count_a)
  many_read = length-received 2 is qs ∙ sym tables_long

  many_decided : length decided_a ≡ 420
  many_decided = length-decided (phase_tables point_count_a) (received 2 is qs) many_read ∙ tables_long

  -- what holds of each nearest phase holds of each point decided
  each_decided : (P : Point → Type 0) → ((i q : ℤ) → P (nearest phases i q)) → (k : ℕ) → k < 420 → P (get_or decided_a k Nothing)
  each_decided P each k h =
      decided_each (λ _. P) (phase_tables point_count_a) (received 2 is qs) many_read
      (λ k l i q. subst (λ (t : List Point). P (nearest t i q)) (sym (table_at k (omega (arith, tables_long)))) (each i q)) k (omega (arith, tables_long))

  decided_points : Points decided_a
  decided_points k h =
      each_decided (λ p. At (level_i p) (level_q p) ≡ p) nearest_phase_at k (omega (arith, many_decided))

  decided_legal : stray_at decided_a ≡ point_count_a
  decided_legal =
      first_none _ Nothing decided_a
      (λ k h. each_decided (λ p. is_stray (phase_of (level_i p) (level_q p)) ≡ false) nearest_phase_legal k (omega (arith, many_decided))) ∙ many_decided

  -- they are what is received of the lists written
  pub points_a_lem : received 2 out_i' out_q' ≡ decided_a
  points_a_lem = rw (made.2, made.3) (front_back 2 decided_a (drop elements_a out_i) (drop elements_a out_q) many_decided decided_points)

  -- no unavailable sub-carrier is occupied there, and no point is stray
  pub clear_a : (first_occupied out_i' out_q' 0 elements_a ≡ elements_a) × (stray_at (received 2 out_i' out_q') ≡ point_count_a)
  clear_a = (rw (made.2, made.3) (front_empty 2 decided_a (drop elements_a out_i) (drop elements_a out_q)), ap stray_at points_a_lem ∙ decided_legal)

  -- so a call of receive A on them is legal, given room for the frame
  pub legal_a : (area : List ℕ) → bytes_a mode ≤ length area → Legal mode out_i' out_q' area
  legal_a area roomy = record {
    known = made.0;
    points = rw (made.2, made.3) (front_room 2 decided_a (drop elements_a out_i) (drop elements_a out_q));
    room = roomy;
    empty = clear_a.0;
    legal = clear_a.1;
  }

  -- receive A answers neither 7 nor 8 on what deciding wrote, in whatever mode and area
  pub never_7_8_a : (mode' : ℕ) (area : List ℕ) (r : ReceivedBurst) (after : List ℕ) → ReceivingA mode' out_i' out_q' area r after
      → ((of_received_a r.answer).number ≢ 7) × ((of_received_a r.answer).number ≢ 8)
  never_7_8_a mode' area r after =
      by_test P (leb mode' 1)
      (λ _. by_test P (room elements_a out_i' out_q' && leb (bytes_a mode') (length area))
      (λ _. by_test P (ltb (first_occupied out_i' out_q' 0 elements_a) elements_a)
      (λ e. absurd (let l = ltb-true (first_occupied out_i' out_q' 0 elements_a) elements_a e in omega (arith, clear_a.0)))
      (λ _. by_test P (ltb (stray_at (received 2 out_i' out_q')) point_count_a)
      (λ e. absurd (let l = ltb-true (stray_at (received 2 out_i' out_q')) point_count_a e in omega (arith, clear_a.1)))
      (λ _. by_test P (ltb most_differing (protected_differing bits)) (λ _ p. other (burst_told r p.0) (λ s. omega arith, λ s. omega arith)) (λ _. answered))))
      (λ _ p. other (burst_told r p.0) (λ s. omega arith, λ s. omega arith)))
      (λ _ p. other (burst_told r p.0) (λ s. omega arith, λ s. omega arith))
    where
      bits : List ℕ
      bits = dibits (received 2 out_i' out_q')

      Other : Type 0
      Other = ((of_received_a r.answer).number ≢ 7) × ((of_received_a r.answer).number ≢ 8)

      P : Checked Unit → Type 0
      P k = Receives k mode' bits area r after → Other

      other : {t : Told} → of_received_a r.answer ≡ t → (t.number ≢ 7) × (t.number ≢ 8) → Other
      other e far = let same = ap (λ (t : Told). t.number) e in (λ s. far.0 (sym same ∙ s), λ s. far.1 (sym same ∙ s))

      answered : Answered mode' (carried bits) (protected_differing bits) area r after → Other
      answered (inl p) = other (burst_told r p.tells) (λ s. omega arith, λ s. omega arith)
      answered (inr (inl p)) = other (burst_told r p.tells) (λ s. omega arith, λ s. omega arith)
      answered (inr (inr p)) = other (burst_told r p.tells) (λ s. omega arith, λ s. omega arith)

  -- ---- a frame goes up exactly when it is near to what was decided, and the burst is no noise

  -- the 784 bits that the decided points carry
  abbrev pub word_a : List ℕ
  word_a = carried (dibits decided_a)

  -- each block sent for a frame differs from the one decided in no more places than may differ
  abbrev pub NearA : List ℕ → Type 0
  NearA frame = (block : ℕ) → block < 2 → count_at row_bits block (coded_a mode frame) word_a ≤ (wire_a mode).mends

  module _ (area : List ℕ) (roomy : bytes_a mode ≤ length area) (r : ReceivedBurst) (after : List ℕ) (receiving : ReceivingA mode out_i' out_q' area r after)
      (frame : List ℕ) (bytes : Bytes frame) (long : length frame ≡ bytes_a mode) where
    -- a frame that is so near goes up, with what differs as counts
    pub up_when_near_a : NearA frame → NoNoise (dibits decided_a)
        → GoesUp mode area r after frame (total (wire_a mode) word_a frame) (protected_differing (dibits decided_a)) (worst (wire_a mode) word_a frame)
    up_when_near_a =
        rw points_a_lem at (trips.up_when_near mode out_i' out_q' area (legal_a area roomy) r after receiving frame bytes long)

    -- and one that goes up is so near
    pub near_when_up_a : (mended differing worst : ℕ) → GoesUp mode area r after frame mended differing worst → NearA frame × NoNoise (dibits decided_a)
    near_when_up_a =
        rw points_a_lem at (trips.near_when_up mode out_i' out_q' area (legal_a area roomy) r after receiving frame bytes long)

  -- ---- points that are moved by less than half the least distance

  -- each point is so near to 64 times the one sent for a frame
  module _ (frame : List ℕ) (long : length frame ≡ bytes_a mode) (moved : AllMoved 2 (received 2 is qs) (points_a mode frame)) where
    decided_sent : decided_a ≡ points_a mode frame
    decided_sent =
        moved_kept 2 (phase_tables point_count_a) (received 2 is qs) (points_a mode frame) many_read (sent_many mode frame made.0 long ∙ sym tables_long)
        (λ k l. subst (λ (t : List Point). Spaced t 2) (sym (table_at k (omega (arith, tables_long)))) spaced_phases)
        (λ k l. subst (λ (t : List Point). Among t (get_or (points_a mode frame) k Nothing)) (sym (table_at k (omega (arith, tables_long))))
        (among k (omega (arith, tables_long)))) moved
      where
        among : (k : ℕ) → k < 420 → Among phases (get_or (points_a mode frame) k Nothing)
        among k h = let one = sent_phase mode frame made.0 long k h in (one.0, rw phases_four one.1, one.2)

    -- nothing is decided differently: deciding writes what sending writes
    pub kept_a : (out_i' ≡ sent_i mode frame ++ drop elements_a out_i) × (out_q' ≡ sent_q mode frame ++ drop elements_a out_q)
    unfolding sent_i sent_q
    kept_a = (
      made.2 ∙ ap (λ (ps : List Point). placed level_i 2 ps ++ drop elements_a out_i) decided_sent,
      made.3 ∙ ap (λ (ps : List Point). placed level_q 2 ps ++ drop elements_a out_q) decided_sent,
    )

    -- as a call of send A for the frame would
    as_sent : SendingA mode frame out_i out_q (Ok tt) out_i' out_q'
    as_sent =
        sendable (λ k. Sends k mode frame out_i out_q (Ok tt) out_i' out_q') mode frame out_i out_q made.0 long made.1 (refl, kept_a.0, kept_a.1)

    -- so the frame goes up, with nothing mended, no protected bit that differs, and no place listed
    pub up_moved_a : Bytes frame → (area : List ℕ) → bytes_a mode ≤ length area → (r : ReceivedBurst) (after : List ℕ)
        → ReceivingA mode out_i' out_q' area r after → (r ≡ burst_of 0 0 0 [] []) × (after ≡ frame ++ drop (bytes_a mode) area)
    up_moved_a bytes area roomy r after receiving = round_trip mode frame out_i out_q (Ok tt) out_i' out_q' as_sent refl bytes area roomy r after receiving

  -- ---- there and back: a frame that send A sent, whose points were moved so and decided

  module _ (frame : List ℕ) (s_i s_q : List ℤ) (sent : Written) (s_i' s_q' : List ℤ) (sending : SendingA mode frame s_i s_q sent s_i' s_q')
      (written : of_written sent ≡ accepted 0 0 0) (bytes : Bytes frame) (area : List ℕ) (roomy : bytes_a mode ≤ length area)
      (r : ReceivedBurst) (after : List ℕ) (receiving : ReceivingA mode out_i' out_q' area r after) where
    -- what sending wrote is the points of the frame
    abbrev Sent : Type 0
    Sent = (length frame ≡ bytes_a mode) × (received 2 s_i' s_q' ≡ points_a mode frame)

    was_sent : Sent
    unfolding sent_i sent_q
    was_sent =
        by_test P (leb mode 1)
        (λ k. by_test P (eqb (length frame) (bytes_a mode))
        (λ e. by_test P (room elements_a s_i s_q) (λ _ p. points_of (eqb-true (length frame) (bytes_a mode) e) p.1 p.2) (failed 3 (omega arith)))
        (failed 2 (omega arith)))
        (failed 1 (omega arith)) sending
      where
        P : Checked Unit → Type 0
        P k = Sends k mode frame s_i s_q sent s_i' s_q' → Sent

        failed : {A : Type 0} (number : ℕ) → 0 < number → A → P (fails number 0)
        failed number l _ p = absurd (not_refused written p.0 l)

        points_of : length frame ≡ bytes_a mode → s_i' ≡ placed level_i 2 (points_a mode frame) ++ drop elements_a s_i
            → s_q' ≡ placed level_q 2 (points_a mode frame) ++ drop elements_a s_q → Sent
        points_of long i q = (
          long,
          rw (i, q) (front_back 2 (points_a mode frame) (drop elements_a s_i) (drop elements_a s_q) (sent_many mode frame made.0 long)
              (sent_points mode frame made.0 long)),
        )

    -- it comes back, with nothing mended, no protected bit that differs, and no place listed
    pub round_trip_a : AllMoved 2 (received 2 is qs) (received 2 s_i' s_q') → (r ≡ burst_of 0 0 0 [] []) × (after ≡ frame ++ drop (bytes_a mode) area)
    round_trip_a moved = up_moved_a frame was_sent.0 (rw was_sent.1 at moved) bytes area roomy r after receiving

    -- and so it does where its points were not moved at all
    pub clean_a : received 2 is qs ≡ map fine (received 2 s_i' s_q') → (r ≡ burst_of 0 0 0 [] []) × (after ≡ frame ++ drop (bytes_a mode) area)
    clean_a clean = round_trip_a (subst (λ (xs : List Point). AllMoved 2 xs (received 2 s_i' s_q')) (sym clean) (fine_moved 2 (omega arith) (received 2 s_i' s_q')))
