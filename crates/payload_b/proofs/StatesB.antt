-- How far a stream of Payload B is after so many OFDM symbols, in blocks and bits; and what is known of a state that is sound.
-- Assumes nothing.
use mathlib.Core.Path.{◌≡◌, refl, sym, ap, ap₂, ◌∙◌}
use mathlib.Core.Bool.{Bool, true, false, cond, ◌&&◌, true≢false, and-eq-true_iff}
use mathlib.Core.List.{List, append-nil}
use Prim.Native.Nat.{ℕ, suc, ◌+◌, ◌-◌, ◌*◌, ◌/◌, ◌%◌, ◌≤◌, ◌<◌, min}
use native.Mathlib.Decide.{dec_lt}
use native.Mathlib.Nat.{mul-zero, mul-suc, mul-add, zero-div, mod-lt, div-add-mod, mul-le-mul, mul-le-mul_left, le-div_iff_mul-le, add-mul-div_left}
use native.Mathlib.Omega.{arith}
use borrow.Author.Tests.{leb-true, eqb-true, lt-ltb, le-ltb, le-leb, eq-eqb}
use lib.Dec.{ltb}
use lib.IntN.{ℤ}
use lib.ListN.{length, take, replicate, length-append}
use lib.Seq.{take_at, length-take-le}
use Rattle.answers.specs.Checks.{passes}
use Rattle.bits.specs.Words.{Bits, differ}
use Rattle.bits.proofs.Digits.{bits_append}
use Rattle.bits.proofs.Copies.{bits_zeros}
use Rattle.bits.proofs.Distances.{differ_self, differ-zero}
use Rattle.packed.specs.Packed.{bits512, padded, words_of}
use Rattle.packed.proofs.Walks.{length_512}
use Rattle.packed.proofs.Paddings.{length-padded}
use Rattle.packed.proofs.Wordings.{bits_words}
use Rattle.points.specs.declared.Point.{Point}
use Rattle.symbols.specs.Grids.{points_from, received}
use Rattle.symbols.specs.Schemes.{sum_of, repeated, labelled}
use Rattle.symbols.proofs.Mapping.{length_symbols}
use Rattle.symbols.proofs.Schemes.{sum_least, sum_most}
use Rattle.payload.proofs.Wires.{one_more}
use Rattle.payload_b.specs.CodedB.{block_bits, blocks_in, symbols_for}
use Rattle.payload_b.specs.PromiseB.{planned}
use Rattle.payload_b.specs.PlanB.{Sendable}
use Rattle.payload_b.specs.StreamB.{blocks_after, wait_after, done_in, done_next, all_pass, sound, Kept, at_hand, blocks_now, bits_now, wait_next}
use Rattle.payload_b.specs.declared.stream.State.{State}
use Rattle.payload_b.proofs.Plans.{symbols_hold, plan_passes}
use Rattle.payload_b.proofs.Blocks.{block_bits_least, block_bits_pos, block_bits_few}
use Rattle.payload_b.proofs.OnceB.{by_plan}

-- ---- of x bits the blocks of b bits, at most n of them, and what waits for the next

module _ (b n : ℕ) (pos : 0 < b) where
  abbrev done : ℕ → ℕ
  done x = min (x / b) n

  abbrev wait : ℕ → ℕ
  wait x = cond (ltb (done x) n) (x % b) 0

  some_wait : (x : ℕ) → done x < n → wait x ≡ x % b
  some_wait x l = rw (lt-ltb (done x) n l) refl

  none_waits : (x : ℕ) → n ≤ done x → wait x ≡ 0
  none_waits x l = rw (le-ltb (done x) n l) refl

  few_wait : (x : ℕ) → wait x < b
  few_wait x = by (dec_lt (done x) n)
    where
      by : Dec (done x < n) → wait x < b
      by (yes l) = rw (some_wait x l) (mod-lt x pos)
      by (no l) = rw (none_waits x (omega arith)) pos

  all_bits : (x : ℕ) → done x < n → x ≡ b * done x + wait x
  all_bits x l =
      let e : done x ≡ x / b = omega arith in
      sym (div-add-mod x b) ∙ ap₂ (λ (d w : ℕ). b * d + w) (sym e) (sym (some_wait x l))

  most_bits : (x : ℕ) → b * done x + wait x ≤ x
  most_bits x = by (dec_lt (done x) n)
    where
      by : Dec (done x < n) → b * done x + wait x ≤ x
      by (yes l) = omega (arith, all_bits x l)
      by (no l) =
          let e : done x ≡ n = omega arith in
          let low : n ≤ x / b = omega arith in
          rw (none_waits x (omega arith), e) (omega (arith, div-add-mod x b, mul-le-mul_left b low))

  more_done : (x y : ℕ) → done x ≤ done (x + y)
  more_done x y = let l : x / b ≤ (x + y) / b = (le-div_iff_mul-le pos).1 (omega (arith, div-add-mod x b)) in omega arith

  next_done : (x y : ℕ) → done x < n → done (x + y) ≡ done x + min ((wait x + y) / b) (n - done x)
  next_done x y l =
      let e : x + y ≡ wait x + y + b * done x = omega (arith, all_bits x l) in
      let q : (x + y) / b ≡ (wait x + y) / b + done x = ap (λ (z : ℕ). z / b) e ∙ add-mul-div_left (wait x + y) (done x) pos in
      omega arith

  -- n blocks need so many OFDM symbols of s bits: fewer do not complete all
  not_all : (s k : ℕ) → 0 < s → k < (b * n + (s - 1)) / s → done (s * k) < n
  not_all s k some l = by (dec_lt (done (s * k)) n)
    where
      by : Dec (done (s * k) < n) → done (s * k) < n
      by (yes h) = h
      by (no h) =
          let e : done (s * k) ≡ n = omega arith in
          let most : b * n ≤ s * k = omega (arith, rw e at (most_bits (s * k))) in
          absurd (omega (arith, most, one_more s k ((b * n + (s - 1)) / s) l, div-add-mod (b * n + (s - 1)) s))

-- ---- after m OFDM symbols

module _ {mode n : ℕ} {scheme : List ℕ} (sendable : Sendable mode n scheme) where
  pub after_none : blocks_after mode n scheme 0 ≡ 0
  after_none = rw (mul-zero (sum_of scheme), zero-div (block_bits mode)) (omega arith)

  pub after_few : (m : ℕ) → blocks_after mode n scheme m ≤ blocks_in mode n
  after_few m = omega arith

  pub after_more : (m : ℕ) → blocks_after mode n scheme m ≤ blocks_after mode n scheme (suc m)
  after_more m = rw (mul-suc (sum_of scheme) m) (more_done (block_bits mode) (blocks_in mode n) (block_bits_pos mode) (sum_of scheme * m) (sum_of scheme))

  pub after_all : blocks_after mode n scheme (symbols_for mode n scheme) ≡ blocks_in mode n
  after_all =
      let m = symbols_for mode n scheme in
      let l : blocks_in mode n ≤ sum_of scheme * m / block_bits mode
      = (le-div_iff_mul-le (block_bits_pos mode)).1 (omega (arith, symbols_hold sendable)) in
      omega arith

  -- before the last OFDM symbol some blocks are not complete
  pub before_all : (m : ℕ) → m < symbols_for mode n scheme → blocks_after mode n scheme m < blocks_in mode n
  before_all m l =
      not_all (block_bits mode) (blocks_in mode n) (block_bits_pos mode) (sum_of scheme) m (omega (arith, sum_least sendable.entries)) l

  -- what waits is less than a block, and nothing waits where all blocks are done
  pub wait_few : (m : ℕ) → wait_after mode n scheme m < block_bits mode
  wait_few m = few_wait (block_bits mode) (blocks_in mode n) (block_bits_pos mode) (sum_of scheme * m)

  pub wait_none : (m : ℕ) → blocks_in mode n ≤ blocks_after mode n scheme m → wait_after mode n scheme m ≡ 0
  wait_none m all = none_waits (block_bits mode) (blocks_in mode n) (block_bits_pos mode) (sum_of scheme * m) all

  -- what waits has room in eight machine words
  pub wait_low : (m : ℕ) → wait_after mode n scheme m ≤ 512
  wait_low m = omega (arith, wait_few m, block_bits_few mode)

  -- blocks and what waits are the bits of the OFDM symbols, until all blocks are done; there may be fill then
  pub bits_after : (m : ℕ) → blocks_after mode n scheme m < blocks_in mode n
      → sum_of scheme * m ≡ block_bits mode * blocks_after mode n scheme m + wait_after mode n scheme m
  bits_after m few = all_bits (block_bits mode) (blocks_in mode n) (block_bits_pos mode) (sum_of scheme * m) few

  pub bits_most : (m : ℕ) → block_bits mode * blocks_after mode n scheme m + wait_after mode n scheme m ≤ sum_of scheme * m
  bits_most m = most_bits (block_bits mode) (blocks_in mode n) (block_bits_pos mode) (sum_of scheme * m)

  -- before all blocks are done, one OFDM symbol more completes as many as its bits and those that wait hold
  pub after_next : (m : ℕ) → blocks_after mode n scheme m < blocks_in mode n
      → blocks_after mode n scheme (suc m)
      ≡ blocks_after mode n scheme m + min ((wait_after mode n scheme m + sum_of scheme) / block_bits mode) (blocks_in mode n - blocks_after mode n scheme m)
  after_next m few =
      rw (mul-suc (sum_of scheme) m) (next_done (block_bits mode) (blocks_in mode n) (block_bits_pos mode) (sum_of scheme * m) (sum_of scheme) few)

-- ---- bits that wait in machine words, with zeros behind them

module _ (word : List ℕ) (n : ℕ) (long : length word ≡ n) (few : n ≤ 512) (each : Bits word) where
  pub words_hold : bits512 (words_of 8 (padded word)) ≡ padded word
  words_hold =
      bits_words (padded word) (length-padded word (omega arith))
      (bits_append word (replicate (512 - length word) 0) each (bits_zeros (512 - length word)))

  pub words_front : take n (bits512 (words_of 8 (padded word))) ≡ word
  words_front = ap (take n) words_hold ∙ take_at word (replicate (512 - length word) 0) n long

  pub words_behind : bits512 (words_of 8 (padded word)) ≡ padded (take n (bits512 (words_of 8 (padded word))))
  words_behind = words_hold ∙ ap padded (sym words_front)

-- ---- a sound state

-- a frame that passes 1, 2, 5 and 6 can be sent
pass_sendable : (mode n : ℕ) (scheme : List ℕ) → all_pass (planned mode n scheme (passes tt)) ≡ true → Sendable mode n scheme
pass_sendable mode n scheme =
    by_plan (λ k. all_pass k ≡ true → Sendable mode n scheme) mode n scheme (passes tt)
    (λ number place _ e. absurd (true≢false (sym e))) (λ sendable _. sendable)

pub sound_kept : (s : State) → sound s ≡ true → Kept s
sound_kept s e =
    let a = (and-eq-true_iff _ _).0 e in
    let b = (and-eq-true_iff _ _).0 a.1 in
    let c = (and-eq-true_iff _ _).0 b.1 in
    let d = (and-eq-true_iff _ _).0 c.1 in
    let f = (and-eq-true_iff _ _).0 d.1 in
    let g = (and-eq-true_iff _ _).0 f.1 in
    let h = (and-eq-true_iff _ _).0 g.1 in
    record {
      sendable = pass_sendable s.mode s.size s.scheme a.0;
      within = leb-true _ _ b.0;
      waits = eqb-true _ _ c.0;
      carried = eqb-true _ _ d.0;
      behind = differ-zero _ _ (eqb-true _ _ f.0);
      near = leb-true _ _ g.0;
      least = leb-true _ _ h.0;
      most = leb-true _ _ h.1;
    }

-- no bit behind those that wait differs from zero
pub none_behind : (s : State) → Kept s → differ (bits512 s.block) (padded (take s.count (bits512 s.block))) ≡ 0
none_behind s k = let kept = padded (take s.count (bits512 s.block)) in ap (λ (v : List ℕ). differ v kept) k.behind ∙ differ_self kept

pub kept_sound : (s : State) → Kept s → sound s ≡ true
kept_sound s k =
    all (ap all_pass (plan_passes k.sendable (passes tt)))
    (all (le-leb _ _ k.within)
    (all (eq-eqb _ _ k.waits)
    (all (eq-eqb _ _ k.carried)
    (all (eq-eqb _ 0 (none_behind s k))
    (all (le-leb _ _ k.near)
    (all (le-leb _ _ k.least) (le-leb _ _ k.most)))))))
  where
    all : {a b : Bool} → a ≡ true → b ≡ true → (a && b) ≡ true
    all {a} {b} p q = (and-eq-true_iff a b).1 (p, q)

-- the bits at hand, those of the blocks complete now, and what waits after them
module _ (s : State) (kept : Kept s) (is qs : List ℤ) where
  pub hand_long : length (at_hand s is qs) ≡ s.count + sum_of s.scheme
  unfolding repeated received
  hand_long =
      let few : s.count ≤ 512 = omega (arith, kept.waits, wait_low kept.sendable s.seen) in
      let points = points_from is qs 1 210 in
      let one : length (labelled s.scheme points) ≡ sum_of s.scheme * 1
      = ap₂ (λ (ns : List ℕ) (ps : List Point). length (labelled ns ps)) (sym (append-nil s.scheme)) (sym (append-nil points))
      ∙ length_symbols s.scheme kept.sendable.entries.long 1 is qs in
      length-append (take s.count (bits512 s.block)) (labelled s.scheme points)
      ∙ omega (arith, one, length-take-le s.count (bits512 s.block) (omega (arith, few, length_512 s.block)))

  pub now_few : done_in s + blocks_now s ≡ done_next s
  now_few = omega (arith, after_more kept.sendable s.seen)

  pub now_whole : block_bits s.mode * blocks_now s + wait_next s ≤ length (at_hand s is qs)
  now_whole = by (dec_lt (done_in s) (blocks_in s.mode s.size))
    where
      by : Dec (done_in s < blocks_in s.mode s.size) → block_bits s.mode * blocks_now s + wait_next s ≤ length (at_hand s is qs)
      by (yes l) =
          rw hand_long (omega (
            arith,
            kept.waits,
            bits_after kept.sendable s.seen l,
            bits_most kept.sendable (suc s.seen),
            mul-suc (sum_of s.scheme) s.seen,
            ap (λ (d : ℕ). block_bits s.mode * d) now_few,
            mul-add (block_bits s.mode) (done_in s) (blocks_now s),
          ))
      by (no l) =
          let all : blocks_in s.mode s.size ≤ done_next s = omega (arith, after_more kept.sendable s.seen) in
          let none : blocks_now s ≡ 0 = omega (arith, after_few kept.sendable (suc s.seen)) in
          rw (none, mul-zero (block_bits s.mode), wait_none kept.sendable (suc s.seen) all) (omega arith)

  pub now_long : length (bits_now s is qs) ≡ block_bits s.mode * blocks_now s
  now_long = length-take-le (block_bits s.mode * blocks_now s) (at_hand s is qs) (omega (arith, now_whole))

-- ---- what the code needs to know of a state

-- a state of which that is not known is not sound
pub not_sound : (s : State) → (Kept s → ⊥) → sound s ≡ false
not_sound s unkept = by (sound s) refl
  where
    by : (b : Bool) → sound s ≡ b → sound s ≡ false
    by true e = absurd (unkept (sound_kept s e))
    by false e = e

-- what waits while there are blocks to come
pub wait_some : (mode n : ℕ) (scheme : List ℕ) (m : ℕ) → blocks_after mode n scheme m < blocks_in mode n
    → wait_after mode n scheme m ≡ sum_of scheme * m % block_bits mode
wait_some mode n scheme m few = some_wait (block_bits mode) (blocks_in mode n) (block_bits_pos mode) (sum_of scheme * m) few

-- so few bits, blocks and mended bits that products of them fit
module _ {mode n : ℕ} {scheme : List ℕ} (sendable : Sendable mode n scheme) (m : ℕ) (within : m ≤ symbols_for mode n scheme) where
  pub seen_few : sum_of scheme * m ≤ 537600
  seen_few = let few : m ≤ 256 = omega (arith, sendable.few) in mul-le-mul (sum_most sendable.entries) few

  pub done_few : blocks_after mode n scheme m ≤ 67200
  done_few = omega (arith, seen_few, bits_most sendable m, mul-le-mul_left (blocks_after mode n scheme m) (block_bits_least mode))
