-- `packed::full` meets its contract: eight bits a turn.
-- Assumes nothing.
use Prim.Native.Nat.{◌*◌}
use native.Mathlib.Omega.{arith}
use Rattle.bits.specs.Words.{lowest}
use Rattle.packed.proofs.Runs.{taken_none, eight_taken, taken_all}
use Rattle.packed.proofs.full.Goals as goal

pub loop-eight-init : goal.loop-eight-init
loop-eight-init c = taken_none (lowest c.args.word.now)

pub loop-eight-preserved : goal.loop-eight-preserved
loop-eight-preserved c =
    let l = c.loop-eight in
    eight_taken c.args.word.now _ c.as_chunks.ensures.front l.eight-index l.x _ _ (omega arith) (omega arith) c.from.ensures c.eight.type_inv c.eight.ensures l.invariant

pub returns : goal.returns
returns c =
    let l = c.loop-eight in
    taken_all c.args.word.now (8 * l.eight-index) l.x c.requires (omega arith) l.invariant
