-- Receiving Payload B: bits wait for their block, whole blocks are mended and are so much more of the frame, and what is not looked at goes past.
-- Assumes nothing.
use mathlib.Core.Path.{◌≡◌, refl, sym, ap, ◌∙◌}
use mathlib.Core.Bool.{Bool, true, false, ◌&&◌, true≢false}
use mathlib.Core.List.{List, [], ◌++◌, append-nil, append_assoc}
use Prim.Native.Nat.{ℕ, ◌+◌, ◌-◌, ◌*◌, ◌≤◌, ◌<◌}
use native.Mathlib.Nat.{mul-zero, mul-add, mul-le-mul_left}
use native.Mathlib.Decide.{dec_le}
use native.Mathlib.Omega.{arith}
use borrow.Author.Tests.{ltb-true, lt-ltb, leb-true, leb-false}
use lib.Dec.{leb, ltb}
use lib.ListN.{length, take, drop, length-append, length-take}
use lib.Seq.{take-take, drop-drop}
use Rattle.std.specs.Prelude.{Result, Ok, Err}
use Rattle.packed.specs.Packed.{bits512}
use Rattle.payload.proofs.Wires.{one_more}
use Rattle.payload_b.specs.CodedB.{block_bytes, block_bits}
use Rattle.payload_b.proofs.Blocks.{block_bits_pos}
use Rattle.receiver_b.specs.Steps.{Sane, began, Going, Moves, Enters, Sticks, TakesIn, wants_block}
use Rattle.receiver_b.specs.declared.stream.Stream.{Stream}
use Rattle.receiver_b.specs.declared.stream.Tally.{Tally}
use Rattle.receiver_b.proofs.Progress.{done_none, stuck_kept}
use Rattle.packed.proofs.Fronts.{zeros_512}

-- ---- whether a full block waits

both : (a b : Bool) → (a && b) ≡ true → (a ≡ true) × (b ≡ true)
both true b h = (refl, h)
both false b h = absurd (true≢false (sym h))

module _ (blocks size : ℕ) (s : Tally) where
  -- one does
  pub block_wanted : wants_block blocks size s ≡ true → (s.done < blocks) × (size ≤ s.count)
  block_wanted h = let p = both (ltb s.done blocks) (leb size s.count) h in (ltb-true s.done blocks p.0, leb-true size s.count p.1)

  -- none does
  pub block_not_wanted : wants_block blocks size s ≡ false → s.done < blocks → s.count < size
  block_not_wanted h next = leb-false size s.count (rw (lt-ltb s.done blocks next) at h)

-- ---- tallies

-- so many bits more wait
abbrev pub reading : ℕ → Tally → Tally
reading n s = record { count = s.count + n; done = s.done; register = s.register; mended = s.mended; worst = s.worst }

-- ---- turns

-- lists with the same front have the same shorter fronts, and lists with the same rest the same shorter rests
front_same : (n m : ℕ) (x y : List ℕ) → n ≤ m → take m x ≡ take m y → take n x ≡ take n y
front_same n m x y l e = sym (take-take n m x l) ∙ ap (take n) e ∙ take-take n m y l

pub rest_same : (n m : ℕ) (x y : List ℕ) → n ≤ m → drop n x ≡ drop n y → drop m x ≡ drop m y
rest_same n m x y l e =
    let i : m ≡ n + (m - n) = omega arith in
    rw (i, ← drop-drop (m - n) n x, ← drop-drop (m - n) n y) (ap (drop (m - n)) e)

module _ {mode blocks : ℕ} {area held : List ℕ} {s : Tally} where
  -- no block is done, and nothing of the area is touched
  pub moves_still : {bits held' : List ℕ} {s' : Tally} → s'.done ≡ s.done
      → ((base : Tally) (fed : List ℕ) → Going mode blocks base fed area held s → Going mode blocks base (fed ++ bits) area held' s')
      → Moves mode blocks bits area held s area held' s'
  moves_still same taken = record { long = refl; onward = omega arith; front = refl; beyond = refl; taken = taken }

  -- nothing is taken in
  pub moves_none : Moves mode blocks [] area held s area held s
  moves_none = moves_still refl (λ base fed t. rw append-nil t)

  -- one after the other
  pub moves_on : {a b area' held' area'' held'' : List ℕ} {s' s'' : Tally} → Moves mode blocks a area held s area' held' s'
      → Moves mode blocks b area' held' s' area'' held'' s'' → Moves mode blocks (a ++ b) area held s area'' held'' s''
  moves_on {a} {b} {area'} {held'} {area''} {held''} {s'} {s''} one two =
      let y = block_bytes mode in
      record {
        long = two.long ∙ one.long;
        onward = omega (arith, one.onward, two.onward);
        front = front_same (y * s.done) (y * s'.done) area'' area' (mul-le-mul_left y one.onward) two.front ∙ one.front;
        beyond = two.beyond ∙ rest_same (y * s'.done) (y * s''.done) area' area (mul-le-mul_left y two.onward) one.beyond;
        taken = λ base fed t. rw (append_assoc fed a b) at (two.taken base (fed ++ a) (one.taken base fed t));
      }

  pub goes_on : {a b area' held' area'' held'' : List ℕ} {s' s'' : Tally} → Moves mode blocks a area held s area' held' s'
      → Enters mode blocks b area' held' s' area'' held'' s'' → Enters mode blocks (a ++ b) area held s area'' held'' s''
  goes_on one (sane, two) = (sane, moves_on one two)

  pub sticks_on : {a b area' held' area'' : List ℕ} {s' : Tally} {done : ℕ} → Moves mode blocks a area held s area' held' s' → s'.done ≤ blocks
      → Sticks mode blocks b area' held' s' area'' done → Sticks mode blocks (a ++ b) area held s area'' done
  sticks_on {a} {b} {area'} {s' = s'} one few two =
      let y = block_bytes mode in
      record {
        long = two.long ∙ one.long;
        beyond = two.beyond ∙ rest_same (y * s'.done) (y * blocks) area' area (mul-le-mul_left y few) one.beyond;
        stuck = λ base fed g. rw (append_assoc fed a b) at (two.stuck base (fed ++ a) (one.taken base fed g));
      }

  pub takes_on : {a area' held' : List ℕ} {s' : Tally} (b area'' : List ℕ) → Moves mode blocks a area held s area' held' s' → s'.done ≤ blocks → (r : Result Stream ℕ)
      → TakesIn mode blocks b area' held' s' area'' r → TakesIn mode blocks (a ++ b) area held s area'' r
  takes_on b area'' one few (Ok end) two = goes_on one two
  takes_on b area'' one few (Err done) two = sticks_on one few two

  -- what comes behind a block that cannot be mended changes nothing
  pub sticks_past : {a area' : List ℕ} {done : ℕ} → mode ≤ 2 → Sticks mode blocks a area held s area' done → (b : List ℕ)
      → Sticks mode blocks (a ++ b) area held s area' done
  sticks_past {a} known h b = record {
    long = h.long;
    beyond = h.beyond;
    stuck = λ base fed g. rw (append_assoc fed a b) at (stuck_kept known (h.stuck base fed g) b);
  }

  -- behind the last block bits are not looked at
  pub goes_past : (bits : List ℕ) → Sane mode blocks held s → blocks ≤ s.done → Enters mode blocks bits area held s area held s
  goes_past bits sane all = (
    sane,
    moves_still refl (λ base fed g. record {
      m = g.m;
      since = g.since;
      bits = g.bits;
      fill = g.fill ++ bits;
      parts = ap (λ (w : List ℕ). w ++ bits) g.parts ∙ simp append_assoc;
      done = g.done;
      unfilled = λ l. absurd (omega (arith, all));
    }),
  )

module _ {mode blocks : ℕ} {base : Tally} {fed area held : List ℕ} {s : Tally} where
  -- before the last block is done there is no fill
  pub no_fill : (g : Going mode blocks base fed area held s) → s.done < blocks → fed ≡ g.bits ++ take s.count held
  no_fill g few = rw (g.unfilled few, append-nil) at g.parts

module _ {mode blocks : ℕ} {area held : List ℕ} {s : Tally} (few : s.done < blocks) (n : ℕ) where
  -- n bits are read behind those that wait
  pub goes_read : {bits run : List ℕ} → take (s.count + n) run ≡ take s.count held ++ bits → Moves mode blocks bits area held s area run (reading n s)
  goes_read {bits} {run} e = moves_still refl (λ base fed g. record {
    m = g.m;
    since = g.since;
    bits = g.bits;
    fill = [];
    parts =
        ap (λ (w : List ℕ). w ++ bits) (no_fill g few) ∙ append_assoc g.bits (take s.count held) bits
        ∙ ap (λ (w : List ℕ). g.bits ++ w) (sym e ∙ sym (append-nil (take (s.count + n) run)));
    done = g.done;
    unfilled = λ _. refl;
  })

-- ---- at the beginning and at the end

pub began_sane : (mode blocks : ℕ) → Sane mode blocks (bits512 began.block) began.tally
began_sane mode blocks = record {
  partial = block_bits_pos mode;
  ended = λ _. refl;
  counts = record { few = omega arith; mended = omega arith };
  behind = zeros_512;
}

-- since a tally itself the bits that wait were taken in
pub base_taken : (mode blocks : ℕ) (area held : List ℕ) (s : Tally) → Going mode blocks s (take s.count held) area held s
base_taken mode blocks area held s = record {
  m = 0;
  since = omega arith;
  bits = [];
  fill = [];
  parts = sym (append-nil (take s.count held));
  done = rw (mul-zero (block_bytes mode)) (done_none mode s);
  unfilled = λ _. refl;
}

-- all blocks are done once their bits were taken in
pub all_done : {mode blocks : ℕ} {base : Tally} {fed area held : List ℕ} {s : Tally} → Sane mode blocks held s
    → block_bits mode * blocks ≤ block_bits mode * base.done + length fed → Going mode blocks base fed area held s → s.done ≡ blocks
all_done {mode} {blocks} {base} {fed} {area} {held} {s} sane whole g = by (dec_le blocks s.done)
  where
    by : Dec (blocks ≤ s.done) → s.done ≡ blocks
    by (yes h) = omega (arith, sane.counts.few)
    by (no h) =
        let few : s.done < blocks = omega arith in
        let n = block_bits mode in
        let long = ap length (no_fill g few) ∙ length-append g.bits (take s.count held) in
        let most = one_more n s.done blocks few in
        let since = ap (λ (k : ℕ). n * k) g.since ∙ mul-add n base.done g.m in
        absurd (omega (arith, length-take s.count held, g.done.long, sane.partial))
