-- At most one frame of Payload A fits 784 bits, whatever the mode.
-- Assumes nothing.
use mathlib.Core.Path.{◌≡◌}
use mathlib.Core.List.{List}
use Prim.Native.Nat.{ℕ}
use lib.ListN.{length}
use Rattle.payload.specs.Wire.{Fits}
use Rattle.payload.proofs.Wires.{one_fits}
use Rattle.payload_a.specs.PromiseA.{wire_a}
use Rattle.payload_a.proofs.Coding.{lawful_a}

-- there are never two such frames
pub fits_once : (bits : List ℕ) → length bits ≡ 784 → (f g : List ℕ) (mode : ℕ) → Fits (wire_a mode) bits f → Fits (wire_a mode) bits g → f ≡ g
fits_once bits long f g mode = one_fits (lawful_a mode) bits long f g
