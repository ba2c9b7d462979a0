-- `bch::register::table` meets its contract: each part begins with what the one before it leads to, and is put behind it.
-- Assumes nothing.
use mathlib.Core.Path.{refl, ◌∙◌}
use Prim.Native.Nat.{◌+◌, ◌^◌, ◌<◌}
use native.Mathlib.Omega.{arith}
use Rattle.bch.specs.Registers.{contents}
use Rattle.bch.proofs.Triples.{joined-lt}
use Rattle.bch.proofs.Eights.{first_unit, next_part}
use Rattle.bch.proofs.register.table.Goals as goal

pub returns : goal.returns
returns c =
    let n = contents c.args.g in
    let g = 2 ^ 192 + n in
    let less : n < 2 ^ 192 = joined-lt {W = 2 ^ 64} (omega arith) (omega arith) (omega arith) in
    let is1 = c.sixteen-a.ensures 0 (first_unit n less) in
    let is2 = c.sixteen-b.ensures 4 (c.step.ensures ∙ next_part g _ 0 (is1 8 _ (omega arith))) in
    let is3 = c.sixteen-c.ensures 8 (c.step-2.ensures ∙ next_part g _ 4 (is2 8 _ (omega arith))) in
    let is4 = c.sixteen-d.ensures 12 (c.step-3.ensures ∙ next_part g _ 8 (is3 8 _ (omega arith))) in
    let to1 = c.put_part.ensures.1 g 0 refl is1 (λ e h. absurd (omega arith)) in
    let to2 = c.put_part-2.ensures.1 g 1 refl is2 to1 in
    let to3 = c.put_part-3.ensures.1 g 2 refl is3 to2 in
    record { at = c.put_part-4.ensures.1 g 3 refl is4 to3 }
