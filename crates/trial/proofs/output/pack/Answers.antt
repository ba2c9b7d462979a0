-- `trial::output::pack` meets its contract: a level more follows the bytes of those before it.
use Rattle.std.proofs.Common.{rules, ◌+◌, ◌-◌, ◌*◌, pos, of_z, refl, sym, ◌∙◌, arith, get_or}
use Rattle.std.proofs.Math.ListN.{length-map, get_or-map}
use mir.Syntax.{w16}
use mir.Val.{SFits}
use mir.ValLaws.{to_z-of_z}
use Rattle.trial.specs.Format.{pairs}
use Rattle.trial.proofs.Packing.{numbers, packed_more, packed_all}
use Rattle.trial.proofs.output.pack.Goals as goal

pub loop-i-init : goal.loop-i-init
unfolding pairs
loop-i-init c = refl

pub loop-i-preserved : goal.loop-i-preserved
loop-i-preserved c =
    let l = c.loop-i in
    let levels = c.args.levels.now in
    let fits : SFits w16 (get_or levels l.i (pos 0)) = search rules in
    let x = to_z-of_z w16 (get_or levels l.i (pos 0)) fits in
    let long = length-map levels (of_z w16) in
    packed_more (numbers levels) l.bytes l.i _ (l.i * 2 + 2 - l.i * 2) _ (omega arith) (omega arith) (omega arith)
    (sym (get_or-map (of_z w16) levels l.i (pos 0))) (c.copy_from_slice.ensures.after ∙ rw x at c.to_le_bytes.ensures) l.invariant

pub returns : goal.returns
returns c =
    let l = c.loop-i in
    let levels = c.args.levels.now in
    packed_all (numbers levels) l.bytes l.i (omega (arith, length-map levels (of_z w16))) (omega arith) l.invariant
