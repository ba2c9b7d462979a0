-- Receiving Payload B: of the bits that wait the first go, as blocks that are mended and are so much more of the frame, or as one that cannot be mended.
-- Assumes nothing.
use mathlib.Core.Path.{◌≡◌, refl, sym, ap, ◌∙◌}
use mathlib.Core.List.{List, [], ◌++◌, append-nil, append_assoc}
use Prim.Native.Nat.{ℕ, ◌+◌, ◌-◌, ◌*◌, ◌≤◌, ◌<◌, max}
use native.Mathlib.Nat.{mul-add, sub_self}
use native.Mathlib.Omega.{arith}
use borrow.Rule.Slice.PartMut.{put_mid, same_len_mid, mid_len, take_put, drop_put}
use lib.ListN.{length, take, drop}
use lib.Seq.{take-add, drop-drop, drop-append-le, length-take-le}
use Rattle.bits.proofs.Copies.{part_written}
use Rattle.packed.proofs.Paddings.{drop-take}
use Rattle.payload_b.specs.CodedB.{block_bytes, block_bits}
use Rattle.payload_b.proofs.Blocks.{block_bits_few, mends_few}
use Rattle.packed.specs.Packed.{bits512}
use Rattle.packed.proofs.Walks.{length_512}
use Rattle.receiver_b.specs.Steps.{NoneNear, Writes, Counts, Done, Going, Moves, Sticks, Full, Closes, Shortens}
use Rattle.receiver_b.specs.declared.stream.Tally.{Tally}
use Rattle.receiver_b.proofs.Progress.{done_more, stuck_kept, stuck_next}
use Rattle.receiver_b.proofs.Taking.{no_fill, moves_none, moves_on, sticks_on}

-- ---- tallies

-- of the bits that wait the first n are gone, as m blocks that are mended
abbrev pub closed : ℕ → ℕ → ℕ → ℕ → ℕ → Tally → Tally
closed n m after mended worst s = record { count = s.count - n; done = s.done + m; register = after; mended = mended; worst = worst }

-- ---- blocks gone

module _ (mode blocks : ℕ) (area held : List ℕ) (s : Tally) (few : s.done < blocks) (n : ℕ) (waits : n ≤ s.count) where
  -- what is behind them
  abbrev rest : List ℕ
  rest = take (s.count - n) (drop n held)

  -- they are the last but for what waits
  parted : {base : Tally} {fed : List ℕ} (g : Going mode blocks base fed area held s) → fed ≡ (g.bits ++ take n held) ++ rest
  parted g =
      let e : s.count ≡ n + (s.count - n) = omega arith in
      no_fill g few ∙ ap (λ (w : List ℕ). g.bits ++ w) (ap (λ (i : ℕ). take i held) e ∙ take-add n (s.count - n) held)
      ∙ sym (append_assoc g.bits (take n held) rest)

  -- a block cannot be mended
  pub sticks_here : mode ≤ 2 → length (take n held) ≡ block_bits mode → NoneNear mode (take n held) → {area' : List ℕ} → area' ≡ area
      → Sticks mode blocks [] area held s area' s.done
  sticks_here known long none same =
      rw same (record {
        long = refl;
        beyond = refl;
        stuck = λ base fed g. rw (append-nil, parted g) (stuck_kept known (stuck_next known g.done long none g.since few) rest);
      })

  -- m blocks are mended, and their bytes are put behind those before
  module _ (m : ℕ) (at end : ℕ) (ea : at ≡ block_bytes mode * s.done) (ee : end ≡ at + block_bytes mode * m)
      (fits : end ≤ length area) (out : List ℕ) (long : length out ≡ end - at) where
    -- the area with the bytes
    abbrev put : List ℕ
    put = put_mid at (end - at) area out

    -- where they end
    ends : end ≡ block_bytes mode * (s.done + m)
    ends = omega (arith, mul-add (block_bytes mode) s.done m)

    -- since a base: the bytes up to their end
    put_since : (k d : ℕ) → s.done ≡ d + k
        → take (block_bytes mode * (k + m)) (drop (block_bytes mode * d) put) ≡ take (block_bytes mode * k) (drop (block_bytes mode * d) area) ++ out
    put_since k d e =
        let y = block_bytes mode in
        let front : y * s.done ≡ y * d + y * k = ap (λ (i : ℕ). y * i) e ∙ mul-add y d k in
        let less : end - y * d ≡ y * (k + m) = omega (arith, mul-add y k m) in
        let least : at - y * d ≡ y * k = omega arith in
        let all : at + (end - at) ≡ end = omega arith in
        rw (← less, ← least, ← drop-take (y * d) end put, ← drop-take (y * d) at area)
        (ap (drop (y * d)) (rw all at (part_written at (end - at) area (omega arith) out long))
        ∙ drop-append-le (y * d) (take at area) out (omega (arith, length-take-le at area (omega arith))))

    pub moves_closed : {after mended worst : ℕ}
        → ((base : Tally) (k : ℕ) (bits f : List ℕ) → Done mode base k bits f s.register s.mended s.worst
        → Done mode base (k + m) (bits ++ take n held) (f ++ out) after mended worst)
        → Moves mode blocks [] area held s put (drop n held) (closed n m after mended worst s)
    moves_closed more = record {
      long = same_len_mid at (end - at) area out (long ∙ sym (mid_len at end area fits));
      onward = omega arith;
      front = rw (← ea) (take_put at (end - at) area out (omega arith));
      beyond = rw (← ends) (drop_put at end area out (omega arith) fits long);
      taken =
          λ base fed g.
          record {
            m = g.m + m;
            since = omega (arith, g.since);
            bits = g.bits ++ take n held;
            fill = [];
            parts = rw (append-nil fed, append-nil rest) (parted g);
            done = rw (put_since g.m base.done g.since) (more base g.m g.bits _ g.done);
            unfilled = λ _. refl;
          };
    }

-- ---- a full block is finished

-- it is whole
pub whole_block : (mode : ℕ) (words : List ℕ) → length (take (block_bits mode) (bits512 words)) ≡ block_bits mode
whole_block mode words = length-take-le (block_bits mode) (bits512 words) (omega (arith, length_512 words, block_bits_few mode))

module _ {mode : ℕ} {area block : List ℕ} {s : Tally} (h : Full mode area s) (long : length (take (block_bits mode) block) ≡ block_bits mode) where
  -- mended, it is one block more of the frame
  pub closes_mended : (at end : ℕ) → at ≡ block_bytes mode * s.done → end ≡ at + block_bytes mode → {count after : ℕ} {out : List ℕ}
      → Writes mode s.register (take (block_bits mode) block) count after out
      → Closes mode area block s (put_mid at (end - at) area out) (closed (block_bits mode) 1 after (s.mended + count) (max s.worst count) s)
  closes_mended at end ea ee {count} {after} {out} w = record {
    shorter = refl;
    counts = λ blocks few. record { few = omega arith; mended = omega (arith, h.mended, w.near, mends_few mode) };
    moves =
        λ blocks few held e.
        moves_closed mode blocks area held s few (block_bits mode) h.full 1 at end ea (omega arith) (omega (arith, h.fits)) out
        (w.long ∙ omega arith) (λ base k bits f d. rw e (done_more d w long));
  }

-- ---- block after block

-- none yet
pub shortens_none : {mode blocks : ℕ} {area : List ℕ} {s : Tally} → (held : List ℕ) → Counts mode blocks s → Shortens mode blocks area held s area s
shortens_none {s = s} held counts = record {
  fewer = omega arith;
  counts = counts;
  moves = rw (sub_self s.count) moves_none;
}

-- one more
pub shortens_more : {mode blocks : ℕ} {area₀ held area area' block : List ℕ} {s₀ s s' : Tally} → Shortens mode blocks area₀ held s₀ area s
    → s.done < blocks → block_bits mode ≤ s.count → Closes mode area block s area' s'
    → take (block_bits mode) block ≡ take (block_bits mode) (drop (s₀.count - s.count) held) → Shortens mode blocks area₀ held s₀ area' s'
shortens_more {mode} {blocks} {area₀} {held} {area} {area'} {block} {s₀} {s} {s'} h few full c e =
    let at = s₀.count - s.count in
    let end : at + block_bits mode ≡ s₀.count - s'.count = omega (arith, h.fewer, c.shorter) in
    let on : Moves mode blocks [] area (drop at held) s area' (drop (s₀.count - s'.count) held) s'
    = rw (← end, ← drop-drop (block_bits mode) at held) (c.moves blocks few (drop at held) (sym e)) in
    record { fewer = omega (arith, h.fewer, c.shorter); counts = c.counts blocks few; moves = moves_on h.moves on }

-- or it cannot be mended
pub shortens_stuck : {mode blocks : ℕ} {area₀ held area area' : List ℕ} {s₀ s : Tally} (block : List ℕ) → mode ≤ 2 → Shortens mode blocks area₀ held s₀ area s
    → s.done < blocks → block_bits mode ≤ s.count → length (take (block_bits mode) block) ≡ block_bits mode
    → NoneNear mode (take (block_bits mode) block) × (area' ≡ area)
    → take (block_bits mode) block ≡ take (block_bits mode) (drop (s₀.count - s.count) held) → Sticks mode blocks [] area₀ held s₀ area' s.done
shortens_stuck {mode} {blocks} {held = held} {area = area} {s₀ = s₀} {s = s} block known h few full long none e =
    sticks_on h.moves h.counts.few
    (sticks_here mode blocks area (drop (s₀.count - s.count) held) s few (block_bits mode) full known (rw e at long) (rw e at none.0) none.1)
