-- The promise of a stream leaves one outcome, for every state, OFDM symbol and area: of an opening, of a step, and of the judgement of a state.
-- Assumes nothing.
use mathlib.Core.Path.{◌≡◌, refl, sym, ap, subst, ◌∙◌}
use mathlib.Core.Logic.{◌≢◌, inl, inr}
use mathlib.Core.Bool.{◌&&◌, true≢false}
use mathlib.Core.List.{List}
use Prim.Native.Nat.{ℕ, ◌+◌, ◌*◌}
use native.Mathlib.Nat.{mul-mod_right}
use lib.Dec.{leb, ltb}
use lib.IntN.{ℤ}
use lib.ListN.{length, replicate}
use Rattle.std.specs.Prelude.{Option, Some, None}
use Rattle.answers.specs.Answers.{accepted, because, ReceivedB}
use Rattle.answers.specs.Checks.{Checked, fails, passes}
use Rattle.answers.specs.declared.Refusal.{Refusal}
use Rattle.answers.proofs.Telling.{refusal_of, refusal_of_lem, received_b_same, by_test}
use Rattle.symbols.specs.Grid.{sub_carriers, symbol_points}
use Rattle.symbols.specs.Grids.{room}
use Rattle.payload.specs.Wire.{Fits, FirstHopeless}
use Rattle.payload.proofs.Wires.{one_fits, fits_hopeless, one_hopeless}
use Rattle.payload_b.specs.CodedB.{block_bytes, block_bits, code_b, symbols_for}
use Rattle.payload_b.specs.PromiseB.{planned, points_checked_b}
use Rattle.payload_b.specs.StreamB.{with_scheme, moving, done_in, fresh, stopped, sound, Kept, Judges, Opens, OpeningB}
use Rattle.payload_b.specs.StreamB.{step_checked, blocks_now, bits_now, wire_now, onward, Stops, Takes, Steps, SteppingB}
use Rattle.payload_b.specs.declared.stream.State.{State}
use Rattle.payload_b.specs.declared.stream.Moving.{Moving}
use Rattle.payload_b.specs.declared.stream.Stage.{Stage}
use Rattle.payload_b.specs.declared.stream.Course.{Course}
use Rattle.payload_b.specs.declared.stream.Course.TheVariants.{Open, Refused}
use Rattle.payload_b.proofs.Blocks.{coded}
use Rattle.payload_b.proofs.Blockwise.{blocks_in_lem, codeword_b, lawful_b}
use Rattle.payload_b.proofs.StatesB.{sound_kept, now_long}

-- ---- the judgement of a state

pub judges_once : (s : State) (a b : Option Stage) → Judges s a → Judges s b → a ≡ b
judges_once s (Some a) (Some b) p q = ap Some (p.1 ∙ sym q.1)
judges_once s (Some a) None p q = absurd (true≢false (sym p.0 ∙ q))
judges_once s None (Some b) p q = absurd (true≢false (sym q.0 ∙ p))
judges_once s None None p q = refl

-- ---- opening

-- a refusal is known by what it tells
refusal_same : (a b : Refusal) → because a ≡ because b → a ≡ b
refusal_same a b e = sym (refusal_of_lem a) ∙ ap refusal_of e ∙ refusal_of_lem b

module _ (mode n : ℕ) (scheme : List ℕ) (a b : State) where
  one_opened : (k : Checked Unit) → Opens k mode n scheme a → Opens k mode n scheme b → a ≡ b
  one_opened (fails number place) p q =
      p.state
      ∙ ap (λ (why : Refusal). stopped why (fresh 0 0 (replicate symbol_points 0))) (refusal_same p.why q.why (p.told ∙ sym q.told))
      ∙ sym q.state
  one_opened (passes _) p q = p ∙ sym q

  pub open_once : OpeningB mode n scheme a → OpeningB mode n scheme b → a ≡ b
  open_once = one_opened (planned mode n scheme (passes tt))

-- ---- a step

module _ (s : State) (is qs : List ℤ) (area : List ℕ) (a b : ReceivedB) (s1 s2 : State) (u v : List ℕ) where
  abbrev Same : Type 0
  Same = (a ≡ b) × (s1 ≡ s2) × (u ≡ v)

  one_stops : (number x y : ℕ) → x ≡ y → Stops number x s area a s1 u → Stops number y s area b s2 v → Same
  one_stops number x y e p q =
      let why : p.why ≡ q.why = refusal_same p.why q.why (cc) in
      (received_b_same a b (cc), cc, cc)

  module _ (kept : Kept s) where
    abbrev bits : List ℕ
    bits = bits_now s is qs

    -- two lists of bytes that fit are the same
    one_out : (f g : List ℕ) → Fits (wire_now s) bits f → Fits (wire_now s) bits g → f ≡ g
    one_out =
        let m = blocks_now s in
        one_fits (lawful_b s.mode s.register (block_bytes s.mode * m) kept.sendable.known (mul-mod_right (block_bytes s.mode) m)) bits
        (now_long s kept is qs ∙ ap (λ (k : ℕ). block_bits s.mode * k) (sym (blocks_in_lem s.mode m)))

    -- where bytes fit, no block is hopeless
    not_hopeless : (f : List ℕ) → Fits (wire_now s) bits f → s.mode ≢ 0 → (block : ℕ) → FirstHopeless (code_b s.mode) (blocks_now s) bits block → ⊥
    not_hopeless f fits not block hopeless =
        let mode = s.mode in
        let m = blocks_now s in
        let known = kept.sendable.known in
        let c = coded mode known not in
        fits_hopeless (wire_now s) (code_b mode) (sym c.whole) (sym c.mends)
        (codeword_b mode s.register (block_bytes mode * m) known (mul-mod_right (block_bytes mode) m) not) bits f fits block
        (subst (λ (k : ℕ). FirstHopeless (code_b mode) k bits block) (sym (blocks_in_lem mode m)) hopeless)

    one_takes : (k : Checked Unit) → Takes k s is qs area a s1 u → Takes k s is qs area b s2 v → Same
    one_takes (fails number index) p q = one_stops number _ _ refl p q
    one_takes (passes _) (inl p) (inl q) =
        let out : p.out ≡ q.out = one_out p.out q.out p.fits q.fits in
        let state : s1 ≡ s2 = p.state ∙ ap (onward s is qs) out ∙ sym q.state in
        (received_b_same a b (p.tells ∙ ap (λ (t : State). accepted t.mended 0 t.worst) state ∙ sym q.tells), state, cc)
    one_takes (passes _) (inl p) (inr q) = absurd (not_hopeless p.out p.fits q.coded q.block q.hopeless)
    one_takes (passes _) (inr p) (inl q) = absurd (not_hopeless q.out q.fits p.coded p.block p.hopeless)
    one_takes (passes _) (inr p) (inr q) =
        let block = one_hopeless (code_b s.mode) (blocks_now s) bits p.block q.block p.hopeless q.hopeless in
        one_stops 9 (done_in s + p.block) (done_in s + q.block) (ap (λ (k : ℕ). done_in s + k) block) p.stops q.stops

  abbrev Once : Checked Unit → Type 0
  Once k = Steps k s is qs area a s1 u → Steps k s is qs area b s2 v → Same

  failed : (number place : ℕ) → Once (fails number place)
  failed number place p q = (received_b_same a b (cc), cc, cc)

  one_step : (course : Course) → Once (step_checked course s is qs area)
  one_step (Refused why) = failed _ _
  one_step Open =
      by_test Once (sound s)
      (λ e. by_test Once (ltb s.seen (symbols_for s.mode s.size s.scheme))
      (λ _. by_test Once (room sub_carriers is qs && leb s.size (length area)) (λ _. one_takes (sound_kept s e) (points_checked_b 1 s.scheme is qs))
      (λ _. failed 3 0))
      (λ _. failed 6 0))
      (λ _. failed 16 0)

  pub step_once : SteppingB s is qs area a s1 u → SteppingB s is qs area b s2 v → (a ≡ b) × (s1 ≡ s2) × (u ≡ v)
  step_once = one_step s.course

-- the same where the scheme is lent
module _ (scheme : List ℕ) (m : Moving) (is qs : List ℤ) (area : List ℕ) (a b : ReceivedB) (m1 m2 : Moving) (u v : List ℕ) where
  pub step_lent_once : SteppingB (with_scheme scheme m) is qs area a (with_scheme scheme m1) u → SteppingB (with_scheme scheme m) is qs area b (with_scheme scheme m2) v
      → (a ≡ b) × (m1 ≡ m2) × (u ≡ v)
  step_lent_once p q =
      let one = step_once (with_scheme scheme m) is qs area a b (with_scheme scheme m1) (with_scheme scheme m2) u v p q in
      (one.0, ap moving one.1, one.2)
