-- `receiver_b::stream::take_blocks` meets its contract: block after block is closed, as long as a full one waits.
-- Assumes nothing.
use mathlib.Core.Path.{◌≡◌, sym, ap, ◌∙◌}
use mathlib.Core.Bool.{true}
use Prim.Native.Nat.{ℕ, ◌-◌, ◌≤◌, ◌<◌}
use native.Mathlib.Omega.{arith}
use lib.ListN.{take}
use Rattle.packed.specs.Packed.{bits_from}
use Rattle.packed.proofs.Fronts.{window_front}
use Rattle.payload.proofs.Wires.{one_more}
use Rattle.payload_b.specs.CodedB.{block_bytes, block_bits}
use Rattle.payload_b.specs.ModesB.{number_of}
use Rattle.payload_b.proofs.Blocks.{block_bits_pos, block_bits_few}
use Rattle.receiver_b.specs.Steps.{wants_block}
use Rattle.receiver_b.specs.declared.stream.Tally.{Tally}
use Rattle.receiver_b.proofs.Taking.{block_wanted, block_not_wanted}
use Rattle.receiver_b.proofs.Closing.{whole_block, shortens_none, shortens_more, shortens_stuck}
use Rattle.receiver_b.proofs.stream.take_blocks.Goals as goal

-- at a turn a full block waits
turn : (mode : ℕ) {blocks size : ℕ} (s : Tally) → size ≡ block_bits mode → wants_block blocks size s ≡ true → (s.done < blocks) × (block_bits mode ≤ s.count)
turn mode {blocks} {size} s e full = rw e at (block_wanted blocks size s full)

pub loop-plan-init : goal.loop-plan-init
loop-plan-init c = shortens_none (bits_from 41 0 c.args.run.now) c.requires.1.counts

pub overflow_sub-at : goal.overflow_sub-at
overflow_sub-at c = c.loop-plan.invariant.fewer

pub close-requires : goal.close-requires
close-requires c =
    let h = c.loop-plan.invariant in
    let t = turn (number_of c.args.plan.mode) c.loop-plan.tally c.block_bits-size.ensures (sym c.is_full.ensures ∙ c.loop-plan-test.true) in
    let more = one_more (block_bytes (number_of c.args.plan.mode)) c.loop-plan.tally.done c.args.plan.blocks t.0 in
    record {
      coded = c.requires.0;
      known = c.requires.1.known;
      full = t.1;
      fits = omega (arith, c.requires.1.room, h.moves.long);
      mended = h.counts.mended;
    }

pub loop-plan-smaller : goal.loop-plan-smaller
loop-plan-smaller c =
    let t = turn (number_of c.args.plan.mode) c.loop-plan.tally c.block_bits-size.ensures (sym c.is_full.ensures ∙ c.loop-plan-test.true) in
    omega (arith, t.1, c.in-Some.ensures.shorter, block_bits_pos (number_of c.args.plan.mode))

pub returns-in_default : goal.returns-in_default
returns-in_default c =
    let a = c.args in
    let mode = number_of a.plan.mode in
    let n = block_bits mode in
    let h = c.loop-plan.invariant in
    let at = a.from.count - c.loop-plan.tally.count in
    let t = turn mode c.loop-plan.tally c.block_bits-size.ensures (sym c.is_full.ensures ∙ c.loop-plan-test.true) in
    let front = window_front a.run.now 41 at n (omega (arith, block_bits_few mode)) (omega (arith, c.requires.1.within, h.fewer, t.1)) in
    shortens_stuck _ c.requires.1.known h t.0 t.1 (whole_block mode c.window.result) c.in_default.ensures (ap (take n) c.window.ensures ∙ front)

pub loop-plan-preserved : goal.loop-plan-preserved
loop-plan-preserved c =
    let a = c.args in
    let mode = number_of a.plan.mode in
    let n = block_bits mode in
    let h = c.loop-plan.invariant in
    let at = a.from.count - c.loop-plan.tally.count in
    let t = turn mode c.loop-plan.tally c.block_bits-size.ensures (sym c.is_full.ensures ∙ c.loop-plan-test.true) in
    let front = window_front a.run.now 41 at n (omega (arith, block_bits_few mode)) (omega (arith, c.requires.1.within, h.fewer, t.1)) in
    shortens_more h t.0 t.1 c.in-Some.ensures (ap (take n) c.window.ensures ∙ front)

pub returns : goal.returns
returns c =
    let size = c.block_bits-size in (
      c.loop-plan.invariant,
      λ next. rw size.ensures at
          (block_not_wanted c.args.plan.blocks size.result c.loop-plan.tally (sym c.is_full.ensures ∙ c.loop-plan-test.false) next),
    )
