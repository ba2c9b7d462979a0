-- `trial::output::head` meets its contract: the place stands behind the number.
-- Assumes nothing.
use mathlib.Core.Path.{ap, ◌∙◌}
use mathlib.Core.List.{List, ◌∷◌, append-nil}
use Prim.Native.Nat.{ℕ}
use Rattle.trial.proofs.Packing.{eight_le}
use Rattle.trial.proofs.output.head.Goals as goal

pub returns : goal.returns
returns c =
    ap (λ (bs : List ℕ). c.args.number ∷ bs)
    (append-nil c.copy_from_slice.new.self ∙ c.copy_from_slice.ensures.after ∙ c.to_le_bytes.ensures ∙ eight_le c.args.place)
