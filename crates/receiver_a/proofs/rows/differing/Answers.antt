-- `receiver_a::rows::differing` meets its contract: the places of the three fields add up.
-- Assumes nothing.
use mathlib.Core.Path.{sym, ap₂, ◌∙◌}
use Prim.Native.Nat.{◌+◌}
use native.Mathlib.Omega.{arith}
use Rattle.payload_a.proofs.Fields.{differ-protected_in}
use Rattle.receiver_a.proofs.rows.differing.Goals as goal

pub returns : goal.returns
returns c = (
  ap₂ ◌+◌ (ap₂ ◌+◌ c.places_apart.ensures.0 c.places_apart-2.ensures.0) c.places_apart-3.ensures.0
      ∙ sym (differ-protected_in c.args.symbol.now c.told-symbol),
  omega arith,
)
