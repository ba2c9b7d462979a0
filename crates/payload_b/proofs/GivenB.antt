-- Every open state that an opening and steps give is one that the code's test accepts; GivenStates has the converse.
-- Assumes nothing.
use mathlib.Core.Path.{◌≡◌, refl, sym, ap, subst, ◌∙◌}
use mathlib.Core.Logic.{inl, inr}
use mathlib.Core.Bool.{Bool, true, false, ◌&&◌, true≢false}
use mathlib.Core.List.{List, [], ◌∷◌}
use Prim.Native.Nat.{ℕ, suc, ◌+◌, ◌*◌, ◌≤◌, ◌<◌, max}
use native.Mathlib.Nat.{le-max_left, le-max_right, max-le, mul-add, mul_comm, mul-zero, mul-le-mul_right}
use native.Mathlib.Decide.{ℕ_discrete}
use native.Mathlib.Omega.{arith}
use borrow.Author.Tests.{ltb-true}
use lib.Dec.{leb, ltb}
use lib.IntN.{ℤ}
use lib.ListN.{length, take, drop, length-drop}
use lib.Seq.{length-take-le}
use Rattle.answers.specs.Checks.{Checked, fails, passes}
use Rattle.answers.specs.declared.Refusal.{Refusal}
use Rattle.answers.proofs.Telling.{by_test}
use Rattle.bits.specs.Words.{Bits, differ}
use Rattle.bits.proofs.Digits.{bits_take, bits_drop, bits_append}
use Rattle.bits.proofs.Distances.{differ-nil}
use Rattle.packed.specs.Packed.{bits512}
use Rattle.packed.proofs.Walks.{bits_512}
use Rattle.packed.proofs.Fronts.{zeros_512}
use Rattle.symbols.specs.Grids.{points_from, room}
use Rattle.symbols.specs.Schemes.{labelled}
use Rattle.symbols.proofs.Labelled.{bits_labelled}
use Rattle.payload.specs.Scrambler.{start, register_after}
use Rattle.payload.specs.Wire.{Wire, worst_of, total, worst, Fits}
use Rattle.payload.proofs.Scrambling.{register_more}
use Rattle.payload.proofs.LineQuality.{quality}
use Rattle.payload_b.specs.CodedB.{block_bytes, block_bits, symbols_for}
use Rattle.payload_b.specs.PromiseB.{mends_b, points_checked_b}
use Rattle.payload_b.specs.PlanB.{Sendable}
use Rattle.payload_b.specs.StreamB.{
  done_in,
  done_next,
  fresh,
  sound,
  Kept,
  Opens,
  OpeningB,
  step_checked,
  at_hand,
  blocks_now,
  bits_now,
  wire_now,
  wait_next,
  onward,
  Takes,
  Steps,
}
use Rattle.payload_b.specs.StreamedB.{Given, opened, stepped}
use Rattle.payload_b.specs.declared.stream.State.{State}
use Rattle.payload_b.specs.declared.stream.Course.{Course}
use Rattle.payload_b.specs.declared.stream.Course.TheVariants.{Open, Refused}
use Rattle.payload_b.proofs.Blockwise.{blocks_in_lem, length_coded}
use Rattle.payload_b.proofs.StatesB.{after_none, wait_low, bits_most, words_behind, sound_kept, kept_sound, now_whole, now_long, now_few}
use Rattle.payload_b.proofs.OnceB.{by_plan}
use Rattle.answers.specs.Answers.{ReceivedB}

-- ---- what is mended in blocks, of which there may be none

module _ (w : Wire) (bits frame : List ℕ) (ls : length (w.sent frame) ≡ w.size * w.blocks) (lb : length bits ≡ w.size * w.blocks)
    (fits : Fits w bits frame) where
  -- the largest count is no more than may differ and than all together; all together are no more than so often the largest
  abbrev Bounds : Type 0
  Bounds = (worst w bits frame ≤ w.mends) × (worst w bits frame ≤ total w bits frame) × (total w bits frame ≤ w.blocks * worst w bits frame)

  bounds : Bounds
  unfolding worst_of
  bounds = by (ℕ_discrete w.blocks 0)
    where
      none : (s b : List ℕ) → length s ≡ 0 → length b ≡ 0 → differ s b ≡ 0
      none [] b es eb = differ-nil b ∙ eb
      none (x ∷ s) b es eb = absurd (omega arith)

      by : Dec (w.blocks ≡ 0) → Bounds
      by (yes z) =
          let zs : w.size * w.blocks ≡ 0 = rw z (mul-zero w.size) in
          let t : total w bits frame ≡ 0 = none (w.sent frame) bits (ls ∙ zs) (lb ∙ zs) in
          let u : worst w bits frame ≡ 0 = rw z refl in
          (omega arith, omega arith, omega arith)
      by (no not) =
          let q = quality w bits frame (omega arith) ls lb fits in
          (q.near, q.low, q.high)

-- ---- nothing seen yet

pub fresh_kept : {mode n : ℕ} {scheme : List ℕ} → Sendable mode n scheme → Kept (fresh mode n scheme)
unfolding register_after
fresh_kept {mode} {n} {scheme} sendable = record {
  sendable = sendable;
  within = omega arith;
  waits = omega (arith, bits_most sendable 0);
  carried = sym (ap (λ (k : ℕ). register_after (8 * k) start) (ap (λ (k : ℕ). block_bytes mode * k) (after_none sendable) ∙ mul-zero (block_bytes mode)));
  behind = zeros_512;
  near = omega arith;
  least = omega arith;
  most = omega arith;
}

-- ---- one OFDM symbol more

module _ (s : State) (kept : Kept s) (is qs : List ℤ) where
  hand_bits : Bits (at_hand s is qs)
  hand_bits =
      bits_append (take s.count (bits512 s.block)) (labelled s.scheme (points_from is qs 1 210))
      (bits_take s.count (bits512 s.block) (bits_512 s.block)) (bits_labelled s.scheme (points_from is qs 1 210))

  -- the bits that wait after it
  abbrev rest : List ℕ
  rest = drop (block_bits s.mode * blocks_now s) (at_hand s is qs)

  wait_long : length (take (wait_next s) rest) ≡ wait_next s
  wait_long = length-take-le (wait_next s) rest (omega (arith, length-drop (block_bits s.mode * blocks_now s) (at_hand s is qs), now_whole s kept is qs))

  wait_bits : Bits (take (wait_next s) rest)
  wait_bits = bits_take (wait_next s) rest (bits_drop (block_bits s.mode * blocks_now s) (at_hand s is qs) hand_bits)

  module _ (before : s.seen < symbols_for s.mode s.size s.scheme) (out : List ℕ) (fits : Fits (wire_now s) (bits_now s is qs) out) where
    abbrev all : ℕ
    all = total (wire_now s) (bits_now s is qs) out

    abbrev largest : ℕ
    largest = worst (wire_now s) (bits_now s is qs) out

    now_bounds : (largest ≤ mends_b s.mode) × (largest ≤ all) × (all ≤ blocks_now s * largest)
    now_bounds =
        let few : (wire_now s).blocks ≡ blocks_now s = blocks_in_lem s.mode (blocks_now s) in
        let many : block_bits s.mode * blocks_now s ≡ block_bits s.mode * (wire_now s).blocks = ap (λ (k : ℕ). block_bits s.mode * k) (sym few) in
        let b = bounds (wire_now s) (bits_now s is qs) out (length_coded s.mode s.register (blocks_now s) out fits.long ∙ many)
        (now_long s kept is qs ∙ many) fits in
        (b.0, b.1, subst (λ (k : ℕ). all ≤ k * largest) few b.2)

    -- the blocks done before and those now are those done then, so often
    so_many : (n : ℕ) → n * done_in s + n * blocks_now s ≡ n * done_next s
    so_many n = sym (mul-add n (done_in s) (blocks_now s)) ∙ ap (λ (k : ℕ). n * k) (now_few s kept is qs)

    pub onward_kept : Kept (onward s is qs out)
    onward_kept =
        let b = now_bounds in
        let both = max s.worst largest in
        let done = block_bytes s.mode * done_in s in
        let now = block_bytes s.mode * blocks_now s in
        record {
          sendable = kept.sendable;
          within = omega arith;
          waits = refl;
          carried =
              ap (register_after (8 * now)) kept.carried ∙ sym (register_more (8 * done) (8 * now) start)
              ∙ ap (λ (k : ℕ). register_after k start) (sym (mul-add 8 done now) ∙ ap (λ (k : ℕ). 8 * k) (so_many (block_bytes s.mode)));
          behind =
              words_behind (take (wait_next s) rest) (wait_next s) wait_long
              (wait_low kept.sendable (suc s.seen)) wait_bits;
          near = max-le kept.near b.0;
          least = max-le (omega (arith, kept.least)) (omega (arith, b.1));
          most =
              omega (
                arith,
                so_many both,
                kept.most,
                mul-le-mul_right (done_in s) (le-max_left s.worst largest),
                b.2,
                mul_comm (blocks_now s) largest,
                mul-le-mul_right (blocks_now s) (le-max_right s.worst largest),
              );
        }

-- ---- every open state that is given

is_open : Course → Bool
is_open Open = true
is_open (Refused why) = false

-- a refusal written into a state is not open
not_open : {s t : State} {why : Refusal} → s ≡ t → t.course ≡ Refused why → s.course ≡ Open → ⊥
unfolding is_open
not_open same c o = true≢false (sym (ap is_open o) ∙ ap (λ (t : State). is_open t.course) same ∙ ap is_open c)

open_kept : (s : State) (mode n : ℕ) (scheme : List ℕ) → OpeningB mode n scheme s → s.course ≡ Open → Kept s
open_kept s mode n scheme = by_plan P mode n scheme (passes tt) (λ number place _ shuts o. absurd (not_open shuts.state refl o)) opens
  where
    P : Checked Unit → Type 0
    P k = Opens k mode n scheme s → s.course ≡ Open → Kept s

    opens : Sendable mode n scheme → P (passes tt)
    opens sendable same o = subst Kept (sym same) (fresh_kept sendable)

module _ (s s' : State) (is qs : List ℤ) (area area' : List ℕ) (r : ReceivedB) (before : s.course ≡ Open → Kept s) where
  abbrev After : Checked Unit → Type 0
  After k = Steps k s is qs area r s' area' → s'.course ≡ Open → Kept s'

  -- nothing is changed
  kept_same : (number place : ℕ) → After (fails number place)
  kept_same number place p o = let same = p.1 in subst Kept (sym same) (before (sym (ap (λ (t : State). t.course) same) ∙ o))

  took : Kept s → s.seen < symbols_for s.mode s.size s.scheme → (k : Checked Unit) → Takes k s is qs area r s' area' → s'.course ≡ Open → Kept s'
  took kept l (fails number index) p o = absurd (not_open p.state refl o)
  took kept l (passes _) (inl p) o = subst Kept (sym p.state) (onward_kept s kept is qs l p.out p.fits)
  took kept l (passes _) (inr p) o = absurd (not_open p.stops.state refl o)

  step_kept : (c : Course) → After (step_checked c s is qs area)
  step_kept (Refused why) = kept_same _ _
  step_kept Open =
      by_test After (sound s)
      (λ is_sound. by_test After (ltb s.seen (symbols_for s.mode s.size s.scheme))
      (λ few. by_test After (room 256 is qs && leb s.size (length area))
      (λ _. took (sound_kept s is_sound) (ltb-true s.seen (symbols_for s.mode s.size s.scheme) few) (points_checked_b 1 s.scheme is qs))
      (λ _. kept_same 3 0))
      (λ _. kept_same 6 0))
      (λ _. kept_same 16 0)

given_kept : (s : State) → Given s → s.course ≡ Open → Kept s
given_kept s (opened mode n scheme o) = open_kept s mode n scheme o
given_kept s' (stepped {s} is qs area area' r given step) = step_kept s s' is qs area area' r (given_kept s given) s.course step

-- the test accepts it
pub given_sound : (s : State) → Given s → s.course ≡ Open → sound s ≡ true
given_sound s given o = kept_sound s (given_kept s given o)
