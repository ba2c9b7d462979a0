-- `payload::scrambler::write_bytes` meets its contract: machine word after machine word, and then the bytes of one that is not whole.
-- Assumes nothing.
use Prim.Native.Nat.{◌+◌, ◌-◌, ◌*◌, ◌/◌}
use mathlib.Core.Path.{refl, ◌∙◌}
use native.Mathlib.Omega.{arith}
use lib.ListN.{length}
use Rattle.payload.proofs.Forming.{scrambled_by}
use Rattle.payload.proofs.Writing.{written_none, written_at, eight_more, byte_more, written_all}
use Rattle.payload.proofs.scrambler.write_bytes.Goals as goal

pub loop-k-init : goal.loop-k-init
loop-k-init c = written_none refl

pub loop-k-preserved : goal.loop-k-preserved
loop-k-preserved c =
    let l = c.loop-k in
    let eight = c.scramble64-eight.ensures in
    eight_more l.invariant _ l.k _ _ _ (8 * l.k + 8 - 8 * l.k) refl (omega arith) (omega arith) (c.copy_from_slice.ensures.after ∙ c.to_be_bytes.ensures)
    c.word_at.ensures eight.0 eight.1

pub loop-j-init : goal.loop-j-init
loop-j-init c = written_at c.loop-k.invariant (8 * (length c.args.out.now / 8)) (omega arith)

pub loop-j-preserved : goal.loop-j-preserved
loop-j-preserved c =
    let l = c.loop-j in
    byte_more l.invariant _ _ _ (length c.args.out.now / 8) _ (omega arith) (omega arith) c.word_at-2.ensures c.to_be_bytes-last.ensures (scrambled_by 8 _ _ l.s c.form8.ensures) c.shift8-s.ensures

pub returns : goal.returns
returns c = written_all c.loop-j.invariant (omega arith)
