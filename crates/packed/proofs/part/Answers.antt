-- `packed::part` meets its contract: eight bits a turn, then one, and all of them moved up.
-- Assumes nothing.
use Prim.Native.Nat.{◌+◌, ◌*◌, ◌/◌}
use native.Mathlib.Omega.{arith}
use lib.ListN.{length}
use Rattle.bits.specs.Words.{lowest}
use Rattle.packed.proofs.Runs.{taken_none, taken_at, eight_taken, one_taken, high_end}
use Rattle.packed.proofs.part.Goals as goal

pub loop-eight-init : goal.loop-eight-init
loop-eight-init c = taken_none (lowest c.args.word.now)

pub loop-eight-preserved : goal.loop-eight-preserved
loop-eight-preserved c =
    let l = c.loop-eight in
    eight_taken c.args.word.now _ c.as_chunks.ensures.front l.eight-index l.x _ _ (omega arith) (omega arith) c.from.ensures c.eight.type_inv c.eight.ensures l.invariant

pub loop-b-init : goal.loop-b-init
loop-b-init c =
    let l = c.loop-eight in
    taken_at (lowest c.args.word.now) (8 * l.eight-index) (8 * (length c.args.word.now / 8) + 0) l.x (omega arith) l.invariant

pub loop-b-preserved : goal.loop-b-preserved
loop-b-preserved c =
    let l = c.loop-b in
    one_taken c.args.word.now _ c.as_chunks.ensures.back l.b-index l.x _ (omega arith) (omega arith) c.from-in-loop-b.ensures l.invariant

pub returns : goal.returns
returns c =
    let l = c.loop-b in
    high_end c.args.word.now (8 * (length c.args.word.now / 8) + l.b-index) l.x (omega arith) (omega arith) l.invariant
