-- A stream of Payload B step after step: all OFDM symbols are accepted so far, or one is refused, the first that is. Over the whole grid it accepts exactly
-- when receive B does, with the same counts and the same area; and no answer depends on OFDM symbols that come later.
-- Assumes nothing.
use mathlib.Core.Path.{◌≡◌, refl, sym, ap, ap₂, subst, ◌∙◌}
use mathlib.Core.Logic.{◌⊎◌, inl, inr}
use mathlib.Core.List.{List, [], ◌++◌, append_assoc}
use Prim.Native.Nat.{ℕ, zero, suc, ◌+◌, ◌-◌, ◌*◌, ◌≤◌, ◌<◌}
use native.Mathlib.Nat.{mul-add, mul-zero, mul-le-mul_left}
use native.Mathlib.Omega.{arith}
use borrow.Author.Tests.{lt-ltb, le-leb}
use lib.Dec.{ltb}
use lib.IntN.{ℤ}
use lib.ListN.{length, take, drop, replicate, length-append, length-drop, length-take}
use lib.Seq.{take_at, drop-append-add, drop-append_seam, drop-drop, take-add, take-take, take-append-le, length-take-le}
use Rattle.answers.specs.Answers.{accepted, ReceivedB, counted_b}
use Rattle.answers.specs.Checks.{Checked, fails, passes}
use Rattle.answers.specs.declared.Refusal.{Refusal}
use Rattle.answers.proofs.Telling.{because_is, by_test, not_refused}
use Rattle.symbols.specs.Grid.{sub_carriers}
use Rattle.symbols.specs.Grids.{received, first_occupied}
use Rattle.symbols.specs.Schemes.{repeated, stray_in}
use Rattle.symbols.proofs.Rooms.{room_enough}
use Rattle.payload.specs.Scrambler.{start}
use Rattle.payload.specs.Wire.{Fits, FirstHopeless}
use Rattle.payload.proofs.Wires.{fits_hopeless}
use Rattle.payload_b.specs.CodedB.{block_bytes, block_bits, code_b, blocks_in, symbols_for}
use Rattle.payload_b.specs.PromiseB.{points_checked_b, bits_received, wire_b, GoesB, ReceivesB, ReceivingB}
use Rattle.payload_b.specs.PlanB.{Sendable}
use Rattle.payload_b.specs.StreamB.{blocks_after, fresh, step_checked, blocks_now, bits_now, GoesOn, Stops, Halts, Takes, Steps, SteppingB}
use Rattle.payload_b.specs.StreamedB.{symbol_at, Streamed, unseen, seen, bits_seen, bits_complete, wire_after, state_after}
use Rattle.payload_b.specs.StreamedB.{SoFar, PointRefused, BlockRefused, FirstRefused}
use Rattle.payload_b.specs.declared.stream.State.{State}
use Rattle.payload_b.specs.declared.stream.Course.{Course}
use Rattle.payload_b.specs.declared.stream.Course.TheVariants as course
use Rattle.payload_b.proofs.Plans.{whole_blocks}
use Rattle.payload_b.proofs.Blocks.{coded}
use Rattle.payload_b.proofs.Blockwise.{codeword_b}
use Rattle.payload_b.proofs.VerdictsB.{receivable, legal}
use Rattle.payload_b.proofs.OnceB.{receive_b_once}
use Rattle.payload_b.proofs.StatesB.{after_few, after_more, after_none, after_all, kept_sound}
use Rattle.payload_b.proofs.OnceStream.{step_once}
use Rattle.payload_b.proofs.Joining.{hopeless_joined, hopeless_more}
use Rattle.payload_b.proofs.StreamPoints.{seen_front, not_passed, clear_more, clear_at}
use Rattle.payload_b.proofs.StreamStates.{complete_long, kept, now_more, now_is, fits_more, onward_is, fresh_fits, fresh_is}
use Rattle.std.specs.Prelude.{Ok, Err}

-- ---- one step more

-- the bytes done stand in the area, and all behind them is as it was
module _ (bytes area : List ℕ) (m : ℕ) (long : length bytes ≡ m) where
  abbrev held : List ℕ
  held = bytes ++ drop m area

  front_held : take m held ≡ bytes
  front_held = take_at bytes (drop m area) m long

  behind_held : (j : ℕ) → m ≤ j → drop j held ≡ drop j area
  behind_held j l =
      let e : j ≡ length bytes + (j - m) = omega arith in
      let f : m + (j - m) ≡ j = omega arith in
      ap (λ (i : ℕ). drop i held) e ∙ drop-append-add bytes (drop m area) (j - m) ∙ drop-drop (j - m) m area ∙ ap (λ (i : ℕ). drop i area) f

  held_long : m ≤ length area → length held ≡ length area
  held_long l = length-append bytes (drop m area) ∙ omega (arith, length-drop m area)

module _ {mode n : ℕ} {scheme : List ℕ} (sendable : Sendable mode n scheme) (is qs : List ℤ) (area : List ℕ) (fits : n ≤ length area) where
  abbrev symbols : ℕ
  symbols = symbols_for mode n scheme

  -- all are accepted, or one is refused
  abbrev Either : ℕ → ReceivedB → State → List ℕ → Type 0
  Either k r s a = SoFar mode n scheme is qs area k r s a ⊎ FirstRefused mode n scheme is qs area k r s a

  -- the blocks done are blocks of the frame
  within : (k : ℕ) → block_bytes mode * blocks_after mode n scheme k ≤ n
  within k = omega (arith, whole_blocks mode n sendable.whole, mul-le-mul_left (block_bytes mode) (after_few sendable k))

  module _ (k : ℕ) (few : k < symbols) (li : 256 * suc k ≤ length is) (lq : 256 * suc k ≤ length qs) (bytes : List ℕ)
      (up : Fits (wire_after mode n scheme k) (bits_complete mode n scheme is qs k) bytes) (clear : points_checked_b k scheme is qs ≡ passes tt) where
    abbrev state : State
    state = state_after mode n scheme is qs k bytes

    abbrev done : ℕ
    done = blocks_after mode n scheme k

    abbrev before : List ℕ
    before = bytes ++ drop (block_bytes mode * done) area

    -- what goes before the OFDM symbol passes
    symbol_long : (levels : List ℤ) → 256 * suc k ≤ length levels → 256 ≤ length (symbol_at k levels)
    symbol_long levels l = omega (arith, length-take-le 256 (drop (256 * k) levels) (omega (arith, length-drop (256 * k) levels)))

    looked_at : step_checked course.Open state (symbol_at k is) (symbol_at k qs) before ≡ passes tt
    looked_at =
        rw (
          kept_sound state (kept sendable is qs k bytes up (omega arith)),
          lt-ltb k symbols few,
          ← room_enough 256 (symbol_at k is) (symbol_at k qs) (symbol_long is li) (symbol_long qs lq),
          le-leb n (length before) (omega (arith, held_long bytes area (block_bytes mode * done) up.long (omega (arith, within k)))),
        ) refl

    -- what a refusal leaves of the area
    refused_left : replicate n 0 ++ drop n before ≡ replicate n 0 ++ drop n area
    refused_left = ap (λ (w : List ℕ). replicate n 0 ++ w) (behind_held bytes area (block_bytes mode * done) up.long n (within k))

    module _ {r : ReceivedB} {s : State} {a : List ℕ} where
      -- it is refused
      stops : (number place : ℕ) → PointRefused scheme is qs k number place ⊎ BlockRefused mode n scheme is qs k number place
          → Stops number place state before r s a → FirstRefused mode n scheme is qs area (suc k) r s a
      stops number place first p = record {
        j = k;
        early = omega arith;
        bytes = bytes;
        fits = up;
        clear = clear;
        number = number;
        place = place;
        first = first;
        why = p.why;
        told = p.told;
        course = ap (λ (t : State). t.course) p.state;
        tells = p.tells;
        left = p.left ∙ refused_left;
      }

      module _ (one : points_checked_b 1 scheme (symbol_at k is) (symbol_at k qs) ≡ passes tt) where
        -- it is accepted
        goes_on : GoesOn state (symbol_at k is) (symbol_at k qs) before r s a → SoFar mode n scheme is qs area (suc k) r s a
        goes_on p = record {
          bytes = bytes ++ p.out;
          fits = fits_more sendable is qs k bytes up few p.out p.fits;
          state = p.state ∙ onward_is sendable is qs k bytes up few p.out p.fits;
          tells = p.tells;
          left =
              p.left
              ∙ ap₂ (λ (u v : List ℕ). u ++ (p.out ++ v)) (front_held bytes area (block_bytes mode * done) up.long)
              (behind_held bytes area (block_bytes mode * done) up.long (block_bytes mode * blocks_after mode n scheme (suc k))
              (mul-le-mul_left (block_bytes mode) (after_more sendable k)))
              ∙ sym (append_assoc bytes p.out _);
          clear = clear_more sendable.entries is qs k clear one;
        }

        -- a block that it completes is hopeless
        halts : Halts state (symbol_at k is) (symbol_at k qs) before r s a → FirstRefused mode n scheme is qs area (suc k) r s a
        halts p =
            stops 9 (done + p.block)
            (inr (record {
              coded = p.coded;
              clear = clear_more sendable.entries is qs k clear one;
              nine = refl;
              late = omega arith;
              hopeless =
                  subst (λ (m : ℕ). FirstHopeless (code_b mode) m (bits_complete mode n scheme is qs (suc k)) (done + p.block))
                  (now_more sendable is qs k bytes up)
                  (subst (λ (w : List ℕ). FirstHopeless (code_b mode) (done + blocks_now state) w (done + p.block)) (sym (now_is sendable is qs k bytes up few))
                  (hopeless_joined mode start done (blocks_now state) sendable.known p.coded (bits_complete mode n scheme is qs k)
                  (bits_now state (symbol_at k is) (symbol_at k qs)) bytes (complete_long sendable is qs k) up p.block p.hopeless));
            }))
            p.stops

      by_points : (c : Checked Unit) → points_checked_b 1 scheme (symbol_at k is) (symbol_at k qs) ≡ c
          → Takes c state (symbol_at k is) (symbol_at k qs) before r s a → Either (suc k) r s a
      by_points (fails number index) e p =
          inr (stops number (256 * k + index) (inl (record { index = index; found = e; placed = refl })) p)
      by_points (passes _) e (inl p) = inl (goes_on e p)
      by_points (passes _) e (inr p) = inr (halts e p)

      step_open : SteppingB state (symbol_at k is) (symbol_at k qs) before r s a → Either (suc k) r s a
      step_open p =
          by_points (points_checked_b 1 scheme (symbol_at k is) (symbol_at k qs)) refl
          (subst (λ (c : Checked Unit). Steps c state (symbol_at k is) (symbol_at k qs) before r s a) looked_at p)

  -- a refusal is repeated
  again : (xs ys : List ℤ) {k : ℕ} {r r' : ReceivedB} {s s' : State} {a a' : List ℕ} → FirstRefused mode n scheme is qs area k r s a
      → SteppingB s xs ys a r' s' a' → FirstRefused mode n scheme is qs area (suc k) r' s' a'
  again xs ys {k} {r} {r'} {s} {s'} {a} {a'} p q =
      let same : Steps (step_checked (course.Refused p.why) s xs ys a) s xs ys a r' s' a'
      = subst (λ (c : Course). Steps (step_checked c s xs ys a) s xs ys a r' s' a') p.course q in
      record {
        j = p.j;
        early = omega (arith, p.early);
        bytes = p.bytes;
        fits = p.fits;
        clear = p.clear;
        number = p.number;
        place = p.place;
        first = p.first;
        why = p.why;
        told = p.told;
        course = ap (λ (t : State). t.course) same.1 ∙ p.course;
        tells = same.0 ∙ sym (because_is p.why) ∙ p.told;
        left = same.2 ∙ p.left;
      }

  -- all are accepted so far
  onto : {k : ℕ} {r r' : ReceivedB} {s s' : State} {a a' : List ℕ} → k < symbols → 256 * suc k ≤ length is → 256 * suc k ≤ length qs
      → SoFar mode n scheme is qs area k r s a → SteppingB s (symbol_at k is) (symbol_at k qs) a r' s' a' → Either (suc k) r' s' a'
  onto {k} {r} {r'} {s} {s'} {a} {a'} few li lq p q =
      step_open k few li lq p.bytes p.fits p.clear
      (subst (λ (t : State). SteppingB t (symbol_at k is) (symbol_at k qs) (bytes_held p) r' s' a') p.state
      (subst (λ (w : List ℕ). SteppingB s (symbol_at k is) (symbol_at k qs) w r' s' a') p.left q))
    where
      bytes_held : SoFar mode n scheme is qs area k r s a → List ℕ
      bytes_held p = p.bytes ++ drop (block_bytes mode * blocks_after mode n scheme k) area

  none_yet : SoFar mode n scheme is qs area 0 (counted_b 0 0) (fresh mode n scheme) area
  none_yet =
      let none : block_bytes mode * blocks_after mode n scheme 0 ≡ 0
      = ap (λ (m : ℕ). block_bytes mode * m) (after_none sendable) ∙ mul-zero (block_bytes mode) in
      record {
        bytes = [];
        fits = fresh_fits sendable is qs;
        state = fresh_is sendable is qs;
        tells = refl;
        left = ap (λ (m : ℕ). drop m area) (sym none);
        clear = legal (λ c. c ≡ passes tt) 0 scheme is qs (omega arith) (omega arith) refl;
      }

  -- after k steps: all accepted so far, or one refused, the first that is
  pub streamed : (k : ℕ) → k ≤ symbols_for mode n scheme → sub_carriers * k ≤ length is → sub_carriers * k ≤ length qs → {r : ReceivedB} {s : State} {a : List ℕ}
      → Streamed is qs area (fresh mode n scheme) k r s a → SoFar mode n scheme is qs area k r s a ⊎ FirstRefused mode n scheme is qs area k r s a
  streamed zero few li lq unseen = inl none_yet
  streamed (suc k) few li lq (seen p q) = by (streamed k (omega arith) (omega arith) (omega arith) p) q
    where
      by : {r r' : ReceivedB} {s s' : State} {a a' : List ℕ} → Either k r s a → SteppingB s (symbol_at k is) (symbol_at k qs) a r' s' a' → Either (suc k) r' s' a'
      by (inl p) q = onto (omega arith) li lq p q
      by (inr p) q = inr (again (symbol_at k is) (symbol_at k qs) p q)

  -- ---- the whole grid, beside receive B

  module _ (li : sub_carriers * symbols_for mode n scheme ≤ length is) (lq : sub_carriers * symbols_for mode n scheme ≤ length qs) where
    abbrev whole : List ℕ
    whole = bits_received mode n scheme is qs

    -- the bytes of x blocks, y in all, that fit the bits at the front: they go up
    abbrev Up : ReceivedB → List ℕ → ℕ → ℕ → Type 0
    Up r a x y = GoesB mode y (take (block_bits mode * x) (bits_seen scheme is qs symbols)) area r a

    whole_goes : {r : ReceivedB} {s : State} {a : List ℕ} → SoFar mode n scheme is qs area symbols r s a → GoesB mode n whole area r a
    whole_goes {r} {s} {a} p =
        let some : Up r a (blocks_after mode n scheme symbols) (block_bytes mode * blocks_after mode n scheme symbols) = record {
          frame = p.bytes;
          fits = p.fits;
          tells = p.tells ∙ ap (λ (t : State). accepted t.mended 0 t.worst) p.state;
          left = p.left;
        } in
        let all : Up r a (blocks_in mode n) (block_bytes mode * blocks_in mode n)
        = subst (λ (x : ℕ). Up r a x (block_bytes mode * x)) (after_all sendable) some in
        subst (Up r a (blocks_in mode n)) (sym (whole_blocks mode n sendable.whole)) all

    -- it is accepted, and so is the grid
    pub whole_accepts : (r0 : ReceivedB) (a0 : List ℕ) {r : ReceivedB} {s : State} {a : List ℕ}
        → Streamed is qs area (fresh mode n scheme) (symbols_for mode n scheme) r s a
        → ReceivingB mode n scheme is qs area r0 a0 → SoFar mode n scheme is qs area (symbols_for mode n scheme) r s a → (r ≡ r0) × (a ≡ a0)
    whole_accepts r0 a0 {r} {s} {a} _ receiving p =
        receive_b_once area r r0 a a0 mode n scheme is qs
        (receivable (λ c. ReceivesB c mode n whole area r a) sendable is qs area (room_enough (256 * symbols) is qs li lq) fits
        (subst (λ (c : Checked Unit). ReceivesB c mode n whole area r a) (sym p.clear) (inl (whole_goes p))))
        receiving

    -- where the grid is accepted, its points are clear, and a frame goes up
    accepted_up : {x y : ℕ} {a0 : List ℕ} → ReceivingB mode n scheme is qs area (counted_b x y) a0
        → (points_checked_b symbols scheme is qs ≡ passes tt) × GoesB mode n whole area (counted_b x y) a0
    accepted_up {x} {y} {a0} =
        receivable (λ c. ReceivesB c mode n whole area (counted_b x y) a0 → Out (points_checked_b symbols scheme is qs)) sendable is qs area
        (room_enough (256 * symbols) is qs li lq) fits
        (by_test P (ltb (first_occupied is qs 0 (256 * symbols)) (256 * symbols)) (λ _. failed 7 _ (omega arith))
        (λ _. by_test P (ltb (stray_in (repeated symbols scheme) (received symbols is qs)) (210 * symbols)) (λ _. failed 8 _ (omega arith)) (λ _. answered)))
      where
        Out : Checked Unit → Type 0
        Out c = (c ≡ passes tt) × GoesB mode n whole area (counted_b x y) a0

        P : Checked Unit → Type 0
        P c = ReceivesB c mode n whole area (counted_b x y) a0 → Out c

        failed : (number place : ℕ) → 0 < number → P (fails number place)
        failed number place l p = absurd (not_refused refl p.0 l)

        answered : P (passes tt)
        answered (inl p) = (refl, p)
        answered (inr p) = absurd (not_refused refl p.tells (omega arith))

    -- the bits of the blocks complete after some OFDM symbols stand at the front
    front_whole : (k : ℕ) → k ≤ symbols → (more : List ℕ) × (whole ≡ bits_complete mode n scheme is qs k ++ more)
    front_whole k l =
        let b = block_bits mode in
        let d = blocks_after mode n scheme k in
        let rest = seen_front sendable.entries is qs k (symbols - k) in
        let some = bits_seen scheme is qs k in
        let all = bits_seen scheme is qs symbols in
        let up : k + (symbols - k) ≡ symbols = omega arith in
        let parts : all ≡ some ++ rest.0 = ap (bits_seen scheme is qs) (sym up) ∙ rest.1 in
        let size : b * blocks_in mode n ≡ b * d + b * (blocks_in mode n - d)
        = ap (λ (m : ℕ). b * m) (split d (after_few sendable k)) ∙ mul-add b d (blocks_in mode n - d) in
        let more = take (b * (blocks_in mode n - d)) (drop (b * d) all) in
        let low : b * d ≤ length some = omega (arith, length-take (b * d) some, complete_long sendable is qs k) in (
          more,
          ap (λ (m : ℕ). take m all) size ∙ take-add (b * d) (b * (blocks_in mode n - d)) all
              ∙ ap (λ (w : List ℕ). w ++ more) (ap (take (b * d)) parts ∙ take-append-le (b * d) some rest.0 low),
        )
      where
        split : (d : ℕ) → d ≤ blocks_in mode n → blocks_in mode n ≡ d + (blocks_in mode n - d)
        split d l = omega arith

    -- a block that is hopeless is so in the grid
    block_refused : (j number place : ℕ) → j < symbols → BlockRefused mode n scheme is qs j number place
        → FirstHopeless (code_b mode) (blocks_in mode n) whole place
    block_refused j number place l p =
        let front = front_whole (suc j) l in
        let d = blocks_after mode n scheme (suc j) in
        rw front.1
        (hopeless_more (code_b mode) d (blocks_in mode n) (after_few sendable (suc j)) (bits_complete mode n scheme is qs (suc j)) front.0
        (rw (coded mode sendable.known p.coded).whole (complete_long sendable is qs (suc j))) place p.hopeless)

    -- so the grid is not accepted
    not_accepted : (x y : ℕ) (a0 : List ℕ) {r : ReceivedB} {s : State} {a : List ℕ} → ReceivingB mode n scheme is qs area (counted_b x y) a0
        → FirstRefused mode n scheme is qs area symbols r s a → ⊥
    not_accepted x y a0 receiving p = by (accepted_up receiving) p.first
      where
        by : {number place : ℕ} → (points_checked_b symbols scheme is qs ≡ passes tt) × GoesB mode n whole area (counted_b x y) a0
            → PointRefused scheme is qs p.j number place ⊎ BlockRefused mode n scheme is qs p.j number place → ⊥
        by up (inl q) = not_passed (sym q.found ∙ clear_at sendable.entries is qs symbols p.j p.early up.0)
        by up (inr q) =
            let c = coded mode sendable.known q.coded in
            fits_hopeless (wire_b mode n) (code_b mode) (sym c.whole) (sym c.mends)
            (codeword_b mode start n sendable.known sendable.whole q.coded) whole up.1.frame up.1.fits _
            (block_refused p.j _ _ p.early q)

    -- one is refused, and so is the grid
    pub whole_refuses : (r0 : ReceivedB) (a0 : List ℕ) {r : ReceivedB} {s : State} {a : List ℕ} → ReceivingB mode n scheme is qs area r0 a0
        → FirstRefused mode n scheme is qs area (symbols_for mode n scheme) r s a → (why : Refusal) × (r0 ≡ Err why)
    whole_refuses (Ok counts) a0 receiving p = absurd (not_accepted counts.mended counts.worst a0 receiving p)
    whole_refuses (Err why) a0 receiving p = (why, refl)

    -- so the stream accepts exactly when receive B does, and then area and counts are the same
    pub whole_same : (r0 : ReceivedB) (a0 : List ℕ) {r : ReceivedB} {s : State} {a : List ℕ}
        → Streamed is qs area (fresh mode n scheme) (symbols_for mode n scheme) r s a
        → ReceivingB mode n scheme is qs area r0 a0
        → ((r ≡ r0) × (a ≡ a0) × SoFar mode n scheme is qs area (symbols_for mode n scheme) r s a)
        ⊎ (FirstRefused mode n scheme is qs area (symbols_for mode n scheme) r s a × ((why : Refusal) × (r0 ≡ Err why)))
    whole_same r0 a0 {r} {s} {a} steps receiving = by (streamed symbols (omega arith) li lq steps)
      where
        by : Either symbols r s a
            → ((r ≡ r0) × (a ≡ a0) × SoFar mode n scheme is qs area symbols r s a)
            ⊎ (FirstRefused mode n scheme is qs area symbols r s a × ((why : Refusal) × (r0 ≡ Err why)))
        by (inl p) = let same = whole_accepts r0 a0 steps receiving p in inl (same.0, same.1, p)
        by (inr p) = inr (p, whole_refuses r0 a0 receiving p)

-- ---- only what was seen counts

-- lists that begin alike have the same OFDM symbols there
seen_alike : (k : ℕ) (levels others : List ℤ) → take (sub_carriers * suc k) levels ≡ take (sub_carriers * suc k) others
    → (take (sub_carriers * k) levels ≡ take (sub_carriers * k) others) × (symbol_at k levels ≡ symbol_at k others)
seen_alike k levels others e =
    let low : 256 * k ≤ 256 * suc k = omega arith in
    let size : 256 * k + 256 ≡ 256 * suc k = omega arith in
    let front : take (256 * k) levels ≡ take (256 * k) others
    = sym (take-take (256 * k) (256 * suc k) levels low) ∙ ap (take (256 * k)) e ∙ take-take (256 * k) (256 * suc k) others low in
    let one : (ls : List ℤ) → take (256 * suc k) ls ≡ take (256 * k) ls ++ symbol_at k ls
    = λ ls. ap (λ (m : ℕ). take m ls) (sym size) ∙ take-add (256 * k) 256 ls in
    let joined : take (256 * k) levels ++ symbol_at k levels ≡ take (256 * k) levels ++ symbol_at k others
    = sym (one levels) ∙ e ∙ one others ∙ ap (λ (ls : List ℤ). ls ++ symbol_at k others) (sym front) in (
      front,
      sym (drop-append_seam (take (256 * k) levels) (symbol_at k levels)) ∙ ap (drop (length (take (256 * k) levels))) joined
          ∙ drop-append_seam (take (256 * k) levels) (symbol_at k others),
    )

-- a step from the same state with the same OFDM symbol and area
step_alike : {xs xs' ys ys' : List ℤ} {s s' t t' : State} {a a' b b' : List ℕ} {q q' : ReceivedB} → xs ≡ xs' → ys ≡ ys' → s ≡ s' → a ≡ a'
    → SteppingB s xs ys a q t b → SteppingB s' xs' ys' a' q' t' b' → (q ≡ q') × (t ≡ t') × (b ≡ b')
step_alike {xs} {xs'} {ys} {ys'} {s} {s'} {t} {t'} {a} {a'} {b} {b'} {q} {q'} ex ey es ea p p' =
    step_once s' xs' ys' a' q q' t t' b b'
    (subst (λ (l : List ℤ). SteppingB s' l ys' a' q t b) ex
    (subst (λ (l : List ℤ). SteppingB s' xs l a' q t b) ey
    (subst (λ (v : State). SteppingB v xs ys a' q t b) es
    (subst (λ (w : List ℕ). SteppingB s xs ys w q t b) ea p))))
    p'

-- a step's answer depends on the OFDM symbols seen so far and on nothing else
pub only_seen : (k : ℕ) (is qs is' qs' : List ℤ) (area : List ℕ) (opened : State) {r r' : ReceivedB} {s s' : State} {a a' : List ℕ}
    → take (sub_carriers * k) is ≡ take (sub_carriers * k) is' → take (sub_carriers * k) qs ≡ take (sub_carriers * k) qs'
    → Streamed is qs area opened k r s a → Streamed is' qs' area opened k r' s' a' → (r ≡ r') × (s ≡ s') × (a ≡ a')
only_seen zero is qs is' qs' area opened i q unseen unseen = (refl, refl, refl)
only_seen (suc k) is qs is' qs' area opened i q (seen p step) (seen p' step') =
    let ei = seen_alike k is is' i in
    let eq = seen_alike k qs qs' q in
    let same = only_seen k is qs is' qs' area opened ei.0 eq.0 p p' in
    step_alike ei.1 eq.1 same.1 same.2 step step'
