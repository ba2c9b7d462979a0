-- Payload B behind deciding: what receive B and a stream say of points that decide B wrote. They answer neither 7 nor 8; a frame goes up exactly when each
-- block sent for it differs from the one decided in at most t places; and points that were moved by less than half the least distance of their constellations
-- are decided as they were sent, so that the frame comes back (document 02, item 1; demands 2 and 3).
-- Assumes nothing.
use mathlib.Core.Path.{◌≡◌, refl, sym, ap, ap₂, subst, ◌∙◌}
use mathlib.Core.Logic.{◌≢◌, ◌⊎◌, inl, inr}
use mathlib.Core.Bool.{Bool, true, cond, ◌&&◌, and-eq-true_iff}
use mathlib.Core.List.{List, ◌++◌, map}
use Prim.Native.Nat.{ℕ, zero, suc, ◌*◌, ◌≤◌, ◌<◌}
use native.Mathlib.Omega.{arith}
use lib.Dec.{leb, ltb}
use lib.IntN.{ℤ}
use lib.ListN.{length, take, drop, length-map}
use Rattle.answers.specs.Answers.{accepted, because, of_written, of_received_b, ReceivedB, Written, counted_b}
use Rattle.answers.specs.Checks.{Checked, fails, passes}
use Rattle.answers.specs.declared.Told.{Told}
use Rattle.answers.specs.declared.Refusal.{Refusal}
use Rattle.answers.proofs.Telling.{never_accepted, by_test, not_refused}
use Rattle.bits.specs.Bytes.{Bytes}
use Rattle.points.specs.declared.Point.{Point}
use Rattle.points.specs.Constellations.{points, level_i, level_q}
use Rattle.symbols.specs.Grid.{sub_carriers, symbol_points}
use Rattle.symbols.specs.Grids.{placed, received, first_occupied, room}
use Rattle.symbols.specs.Schemes.{repeated, labelled, stray_in}
use Rattle.symbols.proofs.Leading.{front_room, front_back, front_empty}
use Rattle.symbols.proofs.Rooms.{room_both, room_enough}
use Rattle.symbols.proofs.Schemes.{Entries, repeated_long}
use Rattle.symbols.proofs.Mapping.{entries_repeated, as_many}
use Rattle.payload.specs.Wire.{count_at, total, worst}
use Rattle.payload.proofs.Wires.{fits_clean}
use Rattle.payload_b.specs.CodedB.{block_bits, blocks_in, bits_for, coded_b, symbols_for, points_b, sent_b}
use Rattle.payload_b.specs.PromiseB.{planned, SendsB, SendingB, points_checked_b, grid_checked, bits_received, mends_b, wire_b, ReceivesB, ReceivingB}
use Rattle.payload_b.specs.PlanB.{Sendable}
use Rattle.payload_b.specs.StreamB.{fresh, sound, step_checked, Takes, Steps, SteppingB}
use Rattle.payload_b.specs.StreamedB.{symbol_at, Streamed, unseen, seen, SoFar, FirstRefused}
use Rattle.payload_b.specs.declared.stream.State.{State}
use Rattle.payload_b.specs.declared.stream.Course.{Course}
use Rattle.payload_b.specs.declared.stream.Course.TheVariants as course
use Rattle.payload_b.proofs.Plans.{plan_passes}
use Rattle.payload_b.proofs.OnceB.{by_plan}
use Rattle.payload_b.proofs.VerdictsB.{receivable, legal}
use Rattle.payload_b.proofs.TripsB.{LegalB, GoesUpB, up_when_near, near_when_up, round_trip}
use Rattle.payload_b.proofs.StreamPoints.{clear_at}
use Rattle.payload_b.proofs.StreamsB.{whole_same}
use Rattle.decisions.specs.Decided.{decided, scheme_tables}
use Rattle.decisions.specs.Deciding.{room_checked, Decides, DecidingB}
use Rattle.decisions.specs.Moves.{AllMoved, fine}
use Rattle.decisions.proofs.Tables.{length-decided}
use Rattle.decisions.proofs.Moves.{fine_moved}
use Rattle.decisions.proofs.PointsB.{points_decided, stray_decided, kept_mapped, filled, points_are, sent_are, points_bits, sent_points}
use Rattle.std.specs.Prelude.{Ok, Err}

-- ---- neither 7 nor 8

abbrev Other : ℕ → Type 0
Other number = (number ≢ 7) × (number ≢ 8)

zero_other : Other 0
zero_other = (λ e. omega arith, λ e. omega arith)

nine_other : Other 9
nine_other = (λ e. omega arith, λ e. omega arith)

-- what tells so
tells_other : {told other : Told} → told ≡ other → Other other.number → Other told.number
tells_other e o = subst (λ (t : Told). Other t.number) (sym e) o

-- ---- a call of decide B that is accepted

module _ (mode n : ℕ) (scheme : List ℕ) (is qs out_i out_q : List ℤ) (answer : Written) (out_i' out_q' : List ℤ)
    (deciding : DecidingB mode n scheme is qs out_i out_q answer out_i' out_q') (done : of_written answer ≡ accepted 0 0 0) where
  abbrev m : ℕ
  m = symbols_for mode n scheme

  -- the points decided
  abbrev pub decided_b : List Point
  decided_b = decided (scheme_tables (repeated (symbols_for mode n scheme) scheme)) (received (symbols_for mode n scheme) is qs)

  -- they are written to the front, and nothing behind is touched
  abbrev written_i : List ℤ
  written_i = placed level_i m decided_b ++ drop (256 * m) out_i

  abbrev written_q : List ℤ
  written_q = placed level_q m decided_b ++ drop (256 * m) out_q

  abbrev Made : Type 0
  Made = Sendable mode n scheme × (room (256 * m) out_i out_q ≡ true) × (out_i' ≡ written_i) × (out_q' ≡ written_q)

  made : Made
  made =
      by_plan P mode n scheme (room_checked m is qs out_i out_q) failed
      (λ sendable. by_test P (room (256 * m) is qs && room (256 * m) out_i out_q)
      (λ e p. (sendable, ((and-eq-true_iff (room (256 * m) is qs) (room (256 * m) out_i out_q)).0 e).1, p.1, p.2))
      (λ _. failed 3 0 (omega arith)))
      deciding
    where
      P : Checked Unit → Type 0
      P k = Decides k (scheme_tables (repeated m scheme)) m is qs out_i out_q answer out_i' out_q' → Made

      failed : (number place : ℕ) → 0 < number → P (fails number place)
      failed number place l p = absurd (not_refused done p.0 l)

  -- length and scheme pass the checks 1, 2, 5 and 6
  pub sendable_b : Sendable mode n scheme
  sendable_b = made.0

  entries : Entries (repeated m scheme)
  entries = entries_repeated sendable_b.entries m

  many : length (received m is qs) ≡ length (repeated m scheme)
  many = as_many scheme sendable_b.entries.long m is qs

  decided_long : length decided_b ≡ 210 * m
  decided_long =
      let tables : length (scheme_tables (repeated m scheme)) ≡ length (repeated m scheme) = length-map (repeated m scheme) points in
      length-decided (scheme_tables (repeated m scheme)) (received m is qs) (many ∙ sym tables) ∙ tables ∙ repeated_long scheme sendable_b.entries.long m

  -- the points decided are received of what was written
  pub points_b_lem : received (symbols_for mode n scheme) out_i' out_q' ≡ decided_b
  points_b_lem =
      ap₂ (received m) made.2 made.3
      ∙ front_back m decided_b (drop (256 * m) out_i) (drop (256 * m) out_q) decided_long (points_decided (repeated m scheme) (received m is qs) entries many)

  -- no unavailable sub-carrier has a point, and each point is one of its constellation
  pub clear_b : (first_occupied out_i' out_q' 0 (sub_carriers * symbols_for mode n scheme) ≡ sub_carriers * symbols_for mode n scheme)
      × (stray_in (repeated (symbols_for mode n scheme) scheme) (received (symbols_for mode n scheme) out_i' out_q') ≡ symbol_points * symbols_for mode n scheme)
  clear_b = (
    ap₂ (λ (i q : List ℤ). first_occupied i q 0 (256 * m)) made.2 made.3 ∙ front_empty m decided_b (drop (256 * m) out_i) (drop (256 * m) out_q),
    ap (stray_in (repeated m scheme)) points_b_lem ∙ stray_decided (repeated m scheme) (received m is qs) entries many
        ∙ repeated_long scheme sendable_b.entries.long m,
  )

  -- so the checks 7 and 8 pass
  pub passes_b : points_checked_b (symbols_for mode n scheme) scheme out_i' out_q' ≡ passes tt
  passes_b = legal (λ c. c ≡ passes tt) m scheme out_i' out_q' (omega (arith, clear_b.0)) (omega (arith, clear_b.1)) refl

  reach : (256 * m ≤ length out_i') × (256 * m ≤ length out_q')
  reach =
      let b = room_both (256 * m) written_i written_q (front_room m decided_b (drop (256 * m) out_i) (drop (256 * m) out_q)) in
      (omega (arith, b.0, ap length made.2), omega (arith, b.1, ap length made.3))

  -- receiving it is a legal call, where there is room for the frame
  pub legal_b : (area : List ℕ) → n ≤ length area → LegalB mode n scheme out_i' out_q' area
  legal_b area roomy = record {
    sendable = sendable_b;
    long_i = reach.0;
    long_q = reach.1;
    room = roomy;
    empty = clear_b.0;
    legal = clear_b.1;
  }

  -- ---- neither 7 nor 8

  -- receive B answers with neither, in whatever area
  pub never_7_8_b : (area : List ℕ) (r : ReceivedB) (after : List ℕ) → ReceivingB mode n scheme out_i' out_q' area r after
      → ((of_received_b r).number ≢ 7) × ((of_received_b r).number ≢ 8)
  never_7_8_b area r after receiving = by_grid (subst (λ (c : Checked Unit). ReceivesB c mode n bits area r after) (plan_passes sendable_b grid) receiving)
    where
      bits : List ℕ
      bits = bits_received mode n scheme out_i' out_q'

      grid : Checked Unit
      grid = grid_checked m n scheme out_i' out_q' area

      P : Checked Unit → Type 0
      P c = ReceivesB c mode n bits area r after → Other (of_received_b r).number

      answered : P (passes tt)
      answered (inl p) = tells_other p.tells zero_other
      answered (inr p) = tells_other p.tells nine_other

      by_grid : P grid
      by_grid =
          by_test P (room (256 * m) out_i' out_q' && leb n (length area)) (λ _. subst P (sym passes_b) answered)
          (λ _ p. tells_other p.0 (λ e. omega arith, λ e. omega arith))

  -- a stream by this scheme that is open, or that another refusal has stopped
  abbrev Sane : State → Type 0
  Sane s =
      (s.scheme ≡ scheme) × ((s.course ≡ course.Open) ⊎ ((why : Refusal) × (s.course ≡ course.Refused why) × Other (because why).number))

  -- one of its OFDM symbols
  module _ (k : ℕ) (few : k < m) (s s' : State) (area area' : List ℕ) (r : ReceivedB) where
    abbrev xs : List ℤ
    xs = symbol_at k out_i'

    abbrev ys : List ℤ
    ys = symbol_at k out_q'

    abbrev Next : Type 0
    Next = Other (of_received_b r).number × Sane s'

    clear_one : s.scheme ≡ scheme → points_checked_b 1 s.scheme xs ys ≡ passes tt
    clear_one e =
        subst (λ (ns : List ℕ). points_checked_b 1 ns xs ys ≡ passes tt) (sym e) (clear_at sendable_b.entries out_i' out_q' m k few passes_b)

    step_open : s.scheme ≡ scheme → s.course ≡ course.Open → SteppingB s xs ys area r s' area' → Next
    step_open same opened step =
        by_checks (subst (λ (c : Course). Steps (step_checked c s xs ys area) s xs ys area r s' area') opened step)
      where
        P : Checked Unit → Type 0
        P c = Steps c s xs ys area r s' area' → Next

        sane : Sane s
        sane = (same, inl opened)

        failed : (number place : ℕ) → Other number → P (fails number place)
        failed number place o p = (tells_other p.0 o, subst Sane (sym p.1) sane)

        Q : Checked Unit → Type 0
        Q c = Takes c s xs ys area r s' area' → Next

        taken : Q (passes tt)
        taken (inl p) =
            (tells_other p.tells zero_other, (ap (λ (t : State). t.scheme) p.state ∙ same, inl (ap (λ (t : State). t.course) p.state)))
        taken (inr p) =
            let q = p.stops in (
              tells_other q.tells nine_other,
              (ap (λ (t : State). t.scheme) q.state ∙ same, inr (q.why, ap (λ (t : State). t.course) q.state, tells_other q.told nine_other)),
            )

        by_checks : P (step_checked course.Open s xs ys area)
        by_checks =
            by_test P (sound s)
            (λ _. by_test P (ltb s.seen (symbols_for s.mode s.size s.scheme))
            (λ _. by_test P (room 256 xs ys && leb s.size (length area)) (λ _. subst Q (sym (clear_one same)) taken)
            (λ _. failed 3 0 (λ e. omega arith, λ e. omega arith)))
            (λ _. failed 6 0 (λ e. omega arith, λ e. omega arith)))
            (λ _. failed 16 0 (λ e. omega arith, λ e. omega arith))

    step_sane : Sane s → SteppingB s xs ys area r s' area' → Next
    step_sane sane = by sane.1
      where
        by : (s.course ≡ course.Open) ⊎ ((why : Refusal) × (s.course ≡ course.Refused why) × Other (because why).number)
            → SteppingB s xs ys area r s' area' → Next
        by (inl opened) step = step_open sane.0 opened step
        by (inr stopped) step =
            let again : Steps (step_checked (course.Refused stopped.0) s xs ys area) s xs ys area r s' area'
            = subst (λ (c : Course). Steps (step_checked c s xs ys area) s xs ys area r s' area') stopped.1 step in
            (tells_other again.0 stopped.2, subst Sane (sym again.1) sane)

  -- nor does a step of a stream by this scheme, from any open state, on any of its OFDM symbols, in whatever area
  pub never_7_8_step : (k : ℕ) → k < symbols_for mode n scheme → (s s' : State) (area area' : List ℕ) (r : ReceivedB) → s.scheme ≡ scheme
      → s.course ≡ course.Open → SteppingB s (symbol_at k out_i') (symbol_at k out_q') area r s' area'
      → ((of_received_b r).number ≢ 7) × ((of_received_b r).number ≢ 8)
  never_7_8_step k few s s' area area' r same opened step = (step_open k few s s' area area' r same opened step).0

  stream_sane : (area : List ℕ) (k : ℕ) → k ≤ m → {r : ReceivedB} {s : State} {a : List ℕ} → Streamed out_i' out_q' area (fresh mode n scheme) k r s a
      → Other (of_received_b r).number × Sane s
  stream_sane area zero few unseen = (zero_other, (refl, inl refl))
  stream_sane area (suc k) few (seen p q) = step_sane k (omega arith) _ _ _ _ _ (stream_sane area k (omega arith) p).1 q

  -- nor a stream from its opening, after any number of steps up to the last OFDM symbol, in whatever area
  pub never_7_8_stream : (area : List ℕ) (k : ℕ) → k ≤ symbols_for mode n scheme → {r : ReceivedB} {s : State} {a : List ℕ}
      → Streamed out_i' out_q' area (fresh mode n scheme) k r s a → ((of_received_b r).number ≢ 7) × ((of_received_b r).number ≢ 8)
  never_7_8_stream area k few steps = (stream_sane area k few steps).0

  -- ---- demand 3 over the points decided

  -- the bits of the points decided, the fill left out
  abbrev pub word_b : List ℕ
  word_b = take (bits_for mode n) (labelled (repeated (symbols_for mode n scheme) scheme) decided_b)

  -- they are the bits received
  pub word_b_lem : bits_received mode n scheme out_i' out_q' ≡ word_b
  word_b_lem = ap (λ (ps : List Point). take (bits_for mode n) (labelled (repeated m scheme) ps)) points_b_lem

  module _ (area : List ℕ) (roomy : n ≤ length area) (r : ReceivedB) (after : List ℕ) (receiving : ReceivingB mode n scheme out_i' out_q' area r after)
      (frame : List ℕ) (bytes : Bytes frame) (long : length frame ≡ n) where
    -- each block sent differs from the one of a word in at most t places
    abbrev Near : List ℕ → Type 0
    Near word = (b : ℕ) → b < blocks_in mode n → count_at (block_bits mode) b (coded_b mode frame) word ≤ mends_b mode

    -- a frame goes up exactly when each block sent differs from the one decided in at most t places
    pub up_when_near_b : Near word_b → GoesUpB n area r after frame (total (wire_b mode n) word_b frame) (worst (wire_b mode n) word_b frame)
    up_when_near_b =
        subst (λ (word : List ℕ). Near word → GoesUpB n area r after frame (total (wire_b mode n) word frame) (worst (wire_b mode n) word frame)) word_b_lem
        (up_when_near mode n scheme out_i' out_q' area (legal_b area roomy) r after receiving frame bytes long)

    pub near_when_up_b : (mended worst : ℕ) → GoesUpB n area r after frame mended worst → Near word_b
    near_when_up_b mended worst up =
        subst Near word_b_lem (near_when_up mode n scheme out_i' out_q' area (legal_b area roomy) r after receiving frame bytes long mended worst up)

  -- ---- the margin

  -- each point that came in is moved from 64 times the point sent for a frame, by less than half the least distance of its constellation, 4 squared levels
  module _ (frame : List ℕ) (bytes : Bytes frame) (long : length frame ≡ n)
      (moved : AllMoved 4 (received (symbols_for mode n scheme) is qs) (points_b mode frame scheme)) where
    -- the points decided are those that were sent
    pub kept_points_b : decided_b ≡ points_b mode frame scheme
    kept_points_b =
        let e = points_are sendable_b frame long in
        kept_mapped (repeated m scheme) (filled sendable_b frame long) (received m is qs) entries many (subst (AllMoved 4 (received m is qs)) e moved) ∙ sym e

    -- so that deciding writes what sending writes
    pub kept_b : (out_i' ≡ sent_b level_i mode frame scheme ++ drop (sub_carriers * symbols_for mode n scheme) out_i)
        × (out_q' ≡ sent_b level_q mode frame scheme ++ drop (sub_carriers * symbols_for mode n scheme) out_q)
    kept_b =
        let at : (level : Point → ℤ) → placed level m decided_b ≡ sent_b level mode frame scheme
        = λ level. ap (placed level m) kept_points_b ∙ sym (sent_are sendable_b frame long level) in (
          made.2 ∙ ap (λ (w : List ℤ). w ++ drop (256 * m) out_i) (at level_i),
          made.3 ∙ ap (λ (w : List ℤ). w ++ drop (256 * m) out_q) (at level_q),
        )

    sending : SendingB mode frame scheme out_i out_q (Ok tt) out_i' out_q'
    sending =
        subst P (sym (subst Pass (sym long) pass))
        (refl, subst (Left level_i out_i out_i') (sym long) kept_b.0, subst (Left level_q out_q out_q') (sym long) kept_b.1)
      where
        P : Checked Unit → Type 0
        P c = SendsB c mode frame scheme out_i out_q (Ok tt) out_i' out_q'

        Pass : ℕ → Type 0
        Pass k = planned mode k scheme (cond (room (256 * symbols_for mode k scheme) out_i out_q) (passes tt) (fails 3 0)) ≡ passes tt

        pass : Pass n
        pass = plan_passes sendable_b _ ∙ ap (λ (b : Bool). cond b (passes tt) (fails 3 0)) made.1

        Left : (Point → ℤ) → List ℤ → List ℤ → ℕ → Type 0
        Left level old new k = new ≡ sent_b level mode frame scheme ++ drop (256 * symbols_for mode k scheme) old

    -- the frame comes back, with nothing mended
    pub up_moved_b : (area : List ℕ) → n ≤ length area → (r : ReceivedB) (after : List ℕ) → ReceivingB mode n scheme out_i' out_q' area r after
        → (r ≡ counted_b 0 0) × (after ≡ frame ++ drop n area)
    up_moved_b area roomy r after receiving =
        subst (λ (k : ℕ). (r ≡ counted_b 0 0) × (after ≡ frame ++ drop k area)) long
        (round_trip mode frame scheme out_i out_q (Ok tt) out_i' out_q' sending refl bytes area (omega arith) r after
        (subst (λ (k : ℕ). ReceivingB mode k scheme out_i' out_q' area r after) (sym long) receiving))

    -- the bits are those that were sent, so that receive B has an answer which gives the frame
    module _ (area : List ℕ) (roomy : n ≤ length area) where
      abbrev word : List ℕ
      word = bits_received mode n scheme out_i' out_q'

      word_sent : word ≡ coded_b mode frame
      word_sent =
          word_b_lem ∙ ap (λ (ps : List Point). take (bits_for mode n) (labelled (repeated m scheme) ps)) kept_points_b ∙ points_bits sendable_b frame long

      abbrev made_b : ReceivedB
      made_b = counted_b (total (wire_b mode n) word frame) (worst (wire_b mode n) word frame)

      there : ReceivingB mode n scheme out_i' out_q' area made_b (frame ++ drop n area)
      there =
          receivable P sendable_b out_i' out_q' area (room_enough (256 * m) out_i' out_q' reach.0 reach.1) roomy
          (subst P (sym passes_b)
          (inl (record {
            frame = frame;
            fits = record { long = long; bytes = bytes; near = rw word_sent (fits_clean (wire_b mode n) frame long bytes).near };
            tells = refl;
            left = refl;
          })))
        where
          P : Checked Unit → Type 0
          P c = ReceivesB c mode n word area made_b (frame ++ drop n area)

      -- and so it does by a stream
      pub up_moved_stream : {r : ReceivedB} {s : State} {a : List ℕ} → Streamed out_i' out_q' area (fresh mode n scheme) (symbols_for mode n scheme) r s a
          → (r ≡ counted_b 0 0) × (a ≡ frame ++ drop n area)
      up_moved_stream {r} {s} {a} steps = by (whole_same sendable_b out_i' out_q' area roomy reach.0 reach.1 made_b (frame ++ drop n area) steps there)
        where
          same : made_b ≡ counted_b 0 0
          same = (up_moved_b area roomy made_b (frame ++ drop n area) there).0

          by : ((r ≡ made_b) × (a ≡ frame ++ drop n area) × SoFar mode n scheme out_i' out_q' area m r s a)
              ⊎ (FirstRefused mode n scheme out_i' out_q' area m r s a × ((why : Refusal) × (made_b ≡ Err why)))
              → (r ≡ counted_b 0 0) × (a ≡ frame ++ drop n area)
          by (inl p) = (p.0 ∙ same, p.1)
          by (inr p) = absurd (never_accepted p.1.0 _ 0 _ (sym (ap of_received_b p.1.1)))

  -- ---- demand 2 over the points decided: send B, decide B, receive B

  module _ (frame : List ℕ) (bytes : Bytes frame) (long : length frame ≡ n) (s_i s_q : List ℤ) (sent : Written) (s_i' s_q' : List ℤ)
      (sending : SendingB mode frame scheme s_i s_q sent s_i' s_q') (told : of_written sent ≡ accepted 0 0 0) (area : List ℕ) (roomy : n ≤ length area)
      (r : ReceivedB) (after : List ℕ) (receiving : ReceivingB mode n scheme out_i' out_q' area r after) where
    -- points that were moved so on their way give back the frame that was sent, with nothing mended
    pub round_trip_b : AllMoved 4 (received (symbols_for mode n scheme) is qs) (received (symbols_for mode n scheme) s_i' s_q')
        → (r ≡ counted_b 0 0) × (after ≡ frame ++ drop n area)
    round_trip_b moved =
        up_moved_b frame bytes long
        (subst (AllMoved 4 (received m is qs)) (sent_points sendable_b frame long s_i s_q sent s_i' s_q' sending told) moved) area roomy r after receiving

    -- and so do clean points, in sixty-fourths
    pub clean_b : received (symbols_for mode n scheme) is qs ≡ map fine (received (symbols_for mode n scheme) s_i' s_q')
        → (r ≡ counted_b 0 0) × (after ≡ frame ++ drop n area)
    clean_b e =
        round_trip_b (subst (λ (xs : List Point). AllMoved 4 xs (received m s_i' s_q')) (sym e) (fine_moved 4 (omega arith) (received m s_i' s_q')))
