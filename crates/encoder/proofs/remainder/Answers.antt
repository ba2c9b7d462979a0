-- `encoder::remainder` meets its contract: what is left of information with zeros behind it is its remainder.
-- Assumes nothing.
use mathlib.Core.Path.{◌∙◌}
use Prim.Native.Nat.{ℕ}
use lib.ListN.{get_or}
use mir.Syntax.{w64}
use mir.Val.{Fits}
use borrow.Author.Rules.{rules}
use Rattle.remainders.proofs.Leftovers.{sound_narrowed}
use Rattle.encoder.proofs.PackedCodewords.{left}
use Rattle.encoder.proofs.remainder.Goals as goal

pub returns : goal.returns
returns c =
    let sound = c.requires.0 in
    let table = c.args.table.now in
    let fit : (j : ℕ) → Fits w64 (get_or table j 0) = λ j. search rules in
    c.leftover.ensures ∙ left sound c.args.information.now c.requires.2
    (sound_narrowed c.args.c.now sound.rooted.order sound.narrow sound.exact table (λ j. (fit j).fits) c.requires.1)
