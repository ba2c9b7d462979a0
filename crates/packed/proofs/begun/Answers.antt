-- `packed::begun` meets its contract: the front is copied, and the zeros behind it stay.
-- Assumes nothing.
use mathlib.Core.Path.{sym, ap, ◌∙◌}
use mathlib.Core.List.{◌++◌}
use lib.ListN.{length}
use Rattle.packed.specs.Packed.{bits_from}
use Rattle.packed.proofs.Amid.{zeros}
use Rattle.packed.proofs.Beginnings.{begun}
use Rattle.packed.proofs.begun.Goals as goal

pub returns : goal.returns
returns c =
    let copied = c.copy_from_slice.ensures in
    ap (λ front. bits_from 41 0 (front ++ zeros 33)) copied.after ∙ begun c.args.front (ap length (sym copied.after) ∙ copied.len)
