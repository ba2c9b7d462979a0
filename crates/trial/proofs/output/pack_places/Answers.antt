-- `trial::output::pack_places` meets its contract: a place more follows the bytes of those before it.
use Rattle.std.proofs.Common.{◌+◌, ◌-◌, ◌*◌, refl, ◌∙◌, arith}
use Rattle.trial.specs.Format.{pairs}
use Rattle.trial.proofs.Packing.{packed_more, packed_all}
use Rattle.trial.proofs.output.pack_places.Goals as goal

pub loop-i-init : goal.loop-i-init
unfolding pairs
loop-i-init c = refl

pub loop-i-preserved : goal.loop-i-preserved
loop-i-preserved c =
    let l = c.loop-i in
    packed_more c.args.places.now l.bytes l.i _ (l.i * 2 + 2 - l.i * 2) _ (omega arith) (omega arith) (omega arith) refl
    (c.copy_from_slice.ensures.after ∙ c.to_le_bytes.ensures) l.invariant

pub returns : goal.returns
returns c = packed_all c.args.places.now c.loop-i.bytes c.loop-i.i (omega arith) (omega arith) c.loop-i.invariant
