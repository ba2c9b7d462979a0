-- The state of a stream after k OFDM symbols of a grid: what waits in it, that it is sound, and the bits at hand with one more.
-- Assumes nothing.
use mathlib.Core.Path.{◌≡◌, refl, sym, ap, ap₂, subst, ◌∙◌}
use mathlib.Core.List.{List, [], ◌++◌}
use Prim.Native.Nat.{ℕ, suc, ◌+◌, ◌*◌, ◌≤◌, ◌<◌, max}
use native.Mathlib.Nat.{zero-div, mul-zero, mul-add, mul_comm}
use native.Mathlib.Decide.{dec_le}
use native.Mathlib.Omega.{arith}
use lib.IntN.{ℤ}
use lib.ListN.{length, take, drop, replicate, length-drop}
use lib.Seq.{drop-append-le, take-append-le, length-take-le, take-add, drop-drop, take_all}
use Rattle.bits.specs.Words.{Bits, differ}
use Rattle.bits.specs.Bytes.{number_from}
use Rattle.bits.proofs.Digits.{bits_take, bits_drop}
use Rattle.bits.proofs.Distances.{differ-le}
use Rattle.packed.specs.Packed.{bits512, padded, words_of}
use Rattle.symbols.specs.Grids.{points_from}
use Rattle.symbols.specs.Schemes.{sum_of, labelled}
use Rattle.symbols.proofs.Mapping.{length_symbols}
use Rattle.symbols.proofs.Labelled.{bits_labelled}
use Rattle.payload.specs.Scrambler.{start, register_after}
use Rattle.payload.specs.Wire.{worst_of, total, worst, Fits}
use Rattle.payload.proofs.Scrambling.{register_more}
use Rattle.payload.proofs.LineQuality.{quality}
use Rattle.payload_b.specs.CodedB.{block_bytes, block_bits, blocks_in, coded_b, symbols_for}
use Rattle.payload_b.specs.PromiseB.{mends_b, wire_b}
use Rattle.payload_b.specs.PlanB.{Sendable}
use Rattle.payload_b.specs.StreamB.{blocks_after, wait_after, fresh, Kept, at_hand, blocks_now, bits_now, wire_now, wait_next, onward}
use Rattle.payload_b.specs.StreamedB.{symbol_at, bits_seen, bits_complete, wire_after, state_after}
use Rattle.payload_b.specs.declared.stream.State.{State}
use Rattle.payload_b.specs.declared.stream.Course.TheVariants.{Open}
use Rattle.payload_b.proofs.Blockwise.{blocks_in_lem, length_coded}
use Rattle.payload_b.proofs.StatesB.{after_none, after_more, before_all, wait_low, bits_after, bits_most, words_front, words_behind, now_long}
use Rattle.payload_b.proofs.Joining.{fits_joined, total_joined, worst_joined}
use Rattle.payload_b.proofs.StreamPoints.{seen_more}

-- open states that are the same in each part
same_state : (scheme : List ℕ) (mode n k : ℕ) {b b' : List ℕ} {c c' r r' m m' w w' : ℕ} → b ≡ b' → c ≡ c' → r ≡ r' → m ≡ m' → w ≡ w'
    → ◌≡◌ {A = State}
    (record { scheme = scheme; block = b; count = c; mode = mode; size = n; seen = k; register = r; mended = m; worst = w; course = Open })
    (record { scheme = scheme; block = b'; count = c'; mode = mode; size = n; seen = k; register = r'; mended = m'; worst = w'; course = Open })
same_state scheme mode n k eb ec er em ew = rw (eb, ec, er, em, ew) refl

module _ {mode n : ℕ} {scheme : List ℕ} (sendable : Sendable mode n scheme) (is qs : List ℤ) (k : ℕ) where
  abbrev done : ℕ
  done = blocks_after mode n scheme k

  abbrev seen : List ℕ
  seen = bits_seen scheme is qs k

  -- the bits that wait
  abbrev waiting : List ℕ
  waiting = take (wait_after mode n scheme k) (drop (block_bits mode * done) seen)

  seen_long : length seen ≡ sum_of scheme * k
  seen_long = length_symbols scheme sendable.entries.long k is qs

  pub complete_long : length (bits_complete mode n scheme is qs k) ≡ block_bits mode * done
  complete_long = length-take-le (block_bits mode * done) seen (omega (arith, seen_long, bits_most sendable k))

  waiting_long : length waiting ≡ wait_after mode n scheme k
  waiting_long =
      length-take-le (wait_after mode n scheme k) (drop (block_bits mode * done) seen)
      (omega (arith, length-drop (block_bits mode * done) seen, seen_long, bits_most sendable k))

  waiting_bits : Bits waiting
  waiting_bits = bits_take (wait_after mode n scheme k) (drop (block_bits mode * done) seen) (bits_drop (block_bits mode * done) seen (bits_labelled _ _))

  pub waits_is : take (wait_after mode n scheme k) (bits512 (words_of 8 (padded waiting))) ≡ waiting
  waits_is = words_front waiting (wait_after mode n scheme k) waiting_long (wait_low sendable k) waiting_bits

  -- ---- the state is sound

  module _ (bytes : List ℕ) (fits : Fits (wire_after mode n scheme k) (bits_complete mode n scheme is qs k) bytes) where
    abbrev state : State
    state = state_after mode n scheme is qs k bytes

    -- what is mended, in all and in the worst block
    abbrev Counts : Type 0
    Counts = (state.worst ≤ mends_b mode) × (state.worst ≤ state.mended) × (state.mended ≤ state.worst * done)

    counts_none : done ≡ 0 → Counts
    unfolding worst_of
    counts_none e =
        let none : block_bits mode * done ≡ 0 = ap (λ (m : ℕ). block_bits mode * m) e ∙ mul-zero (block_bits mode) in
        let w : state.worst ≡ 0
        = ap (λ (m : ℕ). worst_of (block_bits mode) m (coded_b mode bytes) (bits_complete mode n scheme is qs k)) (blocks_in_lem mode done ∙ e) in
        let t : state.mended ≤ 0
        = differ-le (coded_b mode bytes) (bits_complete mode n scheme is qs k) 0 (omega (arith, length_coded mode start done bytes fits.long))
        (omega (arith, complete_long)) in
        (omega arith, omega arith, omega arith)

    counts_some : 0 < done → Counts
    counts_some some =
        let q = quality (wire_after mode n scheme k) (bits_complete mode n scheme is qs k) bytes (rw (blocks_in_lem mode done) some)
        (rw (blocks_in_lem mode done) (length_coded mode start done bytes fits.long)) (rw (blocks_in_lem mode done) complete_long) fits in
        let e : blocks_in mode (block_bytes mode * done) * state.worst ≡ state.worst * done
        = ap (λ (m : ℕ). m * state.worst) (blocks_in_lem mode done) ∙ mul_comm done state.worst in
        (q.near, q.low, omega (arith, q.high, e))

    counts : Counts
    counts = by (dec_le 1 done)
      where
        by : Dec (1 ≤ done) → Counts
        by (yes h) = counts_some h
        by (no h) = counts_none (omega arith)

    pub kept : k ≤ symbols_for mode n scheme → Kept state
    kept l = record {
      sendable = sendable;
      within = l;
      waits = refl;
      carried = refl;
      behind = words_behind waiting (wait_after mode n scheme k) waiting_long (wait_low sendable k) waiting_bits;
      near = counts.0;
      least = counts.1;
      most = counts.2;
    }

    -- ---- the bits at hand with one OFDM symbol more

    abbrev hand : List ℕ
    hand = at_hand state (symbol_at k is) (symbol_at k qs)

    hand_is : k < symbols_for mode n scheme → hand ≡ drop (block_bits mode * done) (bits_seen scheme is qs (suc k))
    hand_is l =
        let b = block_bits mode in
        let one = labelled scheme (points_from (symbol_at k is) (symbol_at k qs) 1 210) in
        let all : waiting ≡ drop (b * done) seen
        = take_all (wait_after mode n scheme k) (drop (b * done) seen)
        (omega (arith, length-drop (b * done) seen, seen_long, bits_after sendable k (before_all sendable k l))) in
        ap (λ (w : List ℕ). w ++ one) (waits_is ∙ all)
        ∙ sym (ap (drop (b * done)) (seen_more sendable.entries is qs k)
        ∙ drop-append-le (b * done) seen one (omega (arith, seen_long, bits_most sendable k)))

    pub now_more : done + blocks_now state ≡ blocks_after mode n scheme (suc k)
    now_more = omega (arith, after_more sendable k)

    -- the blocks complete before, and those complete now
    pub now_is : k < symbols_for mode n scheme
        → bits_complete mode n scheme is qs (suc k) ≡ bits_complete mode n scheme is qs k ++ bits_now state (symbol_at k is) (symbol_at k qs)
    now_is l =
        let b = block_bits mode in
        let one = labelled scheme (points_from (symbol_at k is) (symbol_at k qs) 1 210) in
        let next = bits_seen scheme is qs (suc k) in
        ap (λ (m : ℕ). take m next) (ap (λ (m : ℕ). b * m) (sym now_more) ∙ mul-add b done (blocks_now state)) ∙ take-add (b * done) (b * blocks_now state) next
        ∙ ap₂ ◌++◌ (ap (take (b * done)) (seen_more sendable.entries is qs k)
        ∙ take-append-le (b * done) seen one (omega (arith, seen_long, bits_most sendable k)))
        (ap (take (b * blocks_now state)) (sym (hand_is l)))

    -- and what waits then
    pub wait_is : k < symbols_for mode n scheme → take (wait_next state) (drop (block_bits mode * blocks_now state) hand)
        ≡ take (wait_after mode n scheme (suc k)) (drop (block_bits mode * blocks_after mode n scheme (suc k)) (bits_seen scheme is qs (suc k)))
    wait_is l =
        let b = block_bits mode in
        let next = bits_seen scheme is qs (suc k) in
        ap (λ (w : List ℕ). take (wait_next state) (drop (b * blocks_now state) w)) (hand_is l)
        ∙ ap (take (wait_next state)) (drop-drop (b * blocks_now state) (b * done) next
        ∙ ap (λ (m : ℕ). drop m next) (sym (mul-add b done (blocks_now state)) ∙ ap (λ (m : ℕ). b * m) now_more))

    -- ---- where those complete now fit

    module _ (l : k < symbols_for mode n scheme) (out : List ℕ)
        (behind : Fits (wire_now state) (bits_now state (symbol_at k is) (symbol_at k qs)) out) where
      abbrev now : List ℕ
      now = bits_now state (symbol_at k is) (symbol_at k qs)

      abbrev complete : List ℕ
      complete = bits_complete mode n scheme is qs k

      now_sized : length now ≡ block_bits mode * blocks_now state
      now_sized = now_long state (kept (omega arith)) (symbol_at k is) (symbol_at k qs)

      pub fits_more : Fits (wire_after mode n scheme (suc k)) (bits_complete mode n scheme is qs (suc k)) (bytes ++ out)
      fits_more =
          subst (λ (m : ℕ). Fits (wire_b mode (block_bytes mode * m)) (bits_complete mode n scheme is qs (suc k)) (bytes ++ out)) now_more
          (subst (λ (w : List ℕ). Fits (wire_b mode (block_bytes mode * (done + blocks_now state))) w (bytes ++ out)) (sym (now_is l))
          (fits_joined mode start state.register done (blocks_now state) refl complete now complete_long now_sized bytes out fits behind))

      mended_more : state.mended + total (wire_now state) now out
          ≡ total (wire_after mode n scheme (suc k)) (bits_complete mode n scheme is qs (suc k)) (bytes ++ out)
      mended_more =
          sym (total_joined mode start state.register done (blocks_now state) refl complete now complete_long now_sized bytes out fits behind.long)
          ∙ ap (differ (coded_b mode (bytes ++ out))) (sym (now_is l))

      worst_after : max state.worst (worst (wire_now state) now out)
          ≡ worst (wire_after mode n scheme (suc k)) (bits_complete mode n scheme is qs (suc k)) (bytes ++ out)
      worst_after =
          sym (worst_joined mode start state.register done (blocks_now state) refl complete now complete_long now_sized bytes out fits behind.long)
          ∙ ap₂ (λ (m : ℕ) (w : List ℕ). worst (wire_b mode (block_bytes mode * m)) w (bytes ++ out)) now_more (sym (now_is l))

      register_after_lem : register_after (8 * (block_bytes mode * blocks_now state)) state.register
          ≡ register_after (8 * (block_bytes mode * blocks_after mode n scheme (suc k))) start
      register_after_lem =
          let e : 8 * (block_bytes mode * done) + 8 * (block_bytes mode * blocks_now state) ≡ 8 * (block_bytes mode * blocks_after mode n scheme (suc k))
          = omega (arith, mul-add (block_bytes mode) done (blocks_now state), ap (λ (m : ℕ). block_bytes mode * m) now_more) in
          sym (register_more (8 * (block_bytes mode * done)) (8 * (block_bytes mode * blocks_now state)) start) ∙ ap (λ (m : ℕ). register_after m start) e

      pub onward_is : onward state (symbol_at k is) (symbol_at k qs) out ≡ state_after mode n scheme is qs (suc k) (bytes ++ out)
      onward_is = same_state scheme mode n (suc k) (ap (λ (w : List ℕ). words_of 8 (padded w)) (wait_is l)) refl register_after_lem mended_more worst_after

-- ---- nothing seen yet

no_words : replicate 8 0 ≡ words_of 8 (padded [])
unfolding words_of number_from
no_words = refl

no_bits : start ≡ register_after 0 start
unfolding register_after
no_bits = refl

module _ {mode n : ℕ} {scheme : List ℕ} (sendable : Sendable mode n scheme) (is qs : List ℤ) where
  pub fresh_fits : Fits (wire_after mode n scheme 0) (bits_complete mode n scheme is qs 0) []
  fresh_fits =
      rw (after_none sendable, mul-zero (block_bytes mode))
      (record { long = refl; bytes = tt; near = λ b l. absurd (omega (arith, zero-div (block_bytes mode))) })

  pub fresh_is : fresh mode n scheme ≡ state_after mode n scheme is qs 0 []
  fresh_is =
      let none = after_none sendable in
      let wait : 0 ≡ wait_after mode n scheme 0 = omega (arith, bits_most sendable 0, mul-zero (sum_of scheme)) in
      let bits : 0 ≡ 8 * (block_bytes mode * blocks_after mode n scheme 0)
      = omega (arith, ap (λ (m : ℕ). block_bytes mode * m) none, mul-zero (block_bytes mode)) in
      let c = counts sendable is qs 0 [] fresh_fits in
      let s = state_after mode n scheme is qs 0 [] in
      let product : s.worst * blocks_after mode n scheme 0 ≡ 0 = ap (λ (m : ℕ). s.worst * m) none ∙ mul-zero s.worst in
      same_state scheme mode n 0
      (no_words ∙ ap (λ (m : ℕ). words_of 8 (padded (take m (drop (block_bits mode * blocks_after mode n scheme 0) (bits_seen scheme is qs 0))))) wait)
      wait (no_bits ∙ ap (λ (m : ℕ). register_after m start) bits) (omega (arith, c, product)) (omega (arith, c, product))
