-- Receiving Payload B: what is left of a run goes into the unfinished block, and is gone behind the last block.
-- Assumes nothing.
use mathlib.Core.Path.{◌≡◌, refl, sym, ap, subst, ◌∙◌}
use mathlib.Core.Bool.{Bool, true, false, cond}
use mathlib.Core.List.{List, [], ◌++◌, append-nil}
use Prim.Native.Nat.{ℕ, ◌-◌, ◌≤◌, ◌<◌}
use native.Mathlib.Omega.{arith}
use borrow.Author.Tests.{ltb-true, ltb-false, lt-ltb, le-ltb}
use lib.Dec.{ltb}
use lib.ListN.{length, take, drop, replicate, length-drop}
use Rattle.packed.specs.Packed.{bits512, padded}
use Rattle.payload_b.proofs.Blocks.{block_bits_pos, block_bits_few}
use Rattle.receiver_b.specs.Steps.{Moves, Enters, Clears, Ends, keeping, Leaves}
use Rattle.receiver_b.specs.declared.stream.Tally.{Tally}
use Rattle.packed.proofs.Fronts.{padded_front, zeros_512}
use Rattle.receiver_b.proofs.Taking.{moves_still, moves_on}

-- ---- what is left

module _ (blocks : ℕ) (held : List ℕ) (s : Tally) where
  pub left_some : s.done < blocks → {bits : List ℕ} → bits ≡ padded (take s.count held) → Leaves blocks held s bits s
  left_some next e = let w = lt-ltb s.done blocks next in record { bits = rw w e; tally = rw w refl }

  pub left_none : blocks ≤ s.done → Leaves blocks held s (bits512 (replicate 8 0)) (keeping 0 s)
  left_none all = let w = le-ltb s.done blocks all in record { bits = rw w zeros_512; tally = rw w refl }

-- ---- the turn ends

-- less than a block is left
pub left_ends : {mode blocks : ℕ} {area run area' : List ℕ} {from s : Tally} → from.count ≤ 2624 → Clears mode blocks area run from area' s
    → Ends blocks from.count s
left_ends {mode} within turn = record { within = within; fewer = turn.0.fewer; short = λ next. omega (arith, turn.1 next, block_bits_few mode) }

module _ {mode blocks : ℕ} {area held held' : List ℕ} {s : Tally} where
  -- the bits that wait stand elsewhere
  elsewhere : take s.count held' ≡ take s.count held → Moves mode blocks [] area held s area held' s
  elsewhere e = moves_still refl (λ base fed g. rw append-nil (record {
    m = g.m;
    since = g.since;
    bits = g.bits;
    fill = g.fill;
    parts = rw e g.parts;
    done = g.done;
    unfilled = g.unfilled;
  }))

  -- none wait any more
  let_go : blocks ≤ s.done → Moves mode blocks [] area held s area held' (keeping 0 s)
  let_go all = moves_still refl (λ base fed g. rw append-nil (record {
    m = g.m;
    since = g.since;
    bits = g.bits;
    fill = take s.count held ++ g.fill;
    parts = g.parts;
    done = g.done;
    unfilled = λ l. absurd (omega (arith, all));
  }))

module _ {mode blocks : ℕ} {area run area' : List ℕ} {from s : Tally} (room : from.count ≤ length run) (turn : Clears mode blocks area run from area' s) where
  -- what stands behind the bits taken in
  abbrev rest : List ℕ
  rest = drop (from.count - s.count) run

  ends_some : {held : List ℕ} → s.done < blocks → held ≡ padded (take s.count rest) → Enters mode blocks [] area run from area' held s
  ends_some {held} next e =
      let h = turn.0 in
      let same : take s.count held ≡ take s.count rest
      = ap (take s.count) e ∙ padded_front rest s.count (omega (arith, h.fewer, length-drop (from.count - s.count) run)) in (
        record {
          partial = turn.1 next;
          ended = λ all. absurd (omega (arith, next));
          counts = h.counts;
          behind = e ∙ ap padded (sym same);
        },
        moves_on h.moves (elsewhere same),
      )

  ends_none : {held : List ℕ} → blocks ≤ s.done → held ≡ padded [] → Enters mode blocks [] area run from area' held (keeping 0 s)
  ends_none {held} all e =
      let h = turn.0 in (
        record {
          partial = block_bits_pos mode;
          ended = λ _. refl;
          counts = record { few = h.counts.few; mended = h.counts.mended };
          behind = e;
        },
        moves_on h.moves (let_go all),
      )

  -- it is left, or gone
  pub leaves : {held : List ℕ} {s' : Tally} → Leaves blocks rest s held s' → Enters mode blocks [] area run from area' held s'
  leaves {held} l = subst (Enters mode blocks [] area run from area' held) (sym l.tally) (by (ltb s.done blocks) refl l.bits)
    where
      by : (w : Bool) → ltb s.done blocks ≡ w → held ≡ padded (take (cond w s.count 0) rest)
          → Enters mode blocks [] area run from area' held (keeping (cond w s.count 0) s)
      by true w e = ends_some (ltb-true s.done blocks w) e
      by false w e = ends_none (ltb-false s.done blocks w) e
