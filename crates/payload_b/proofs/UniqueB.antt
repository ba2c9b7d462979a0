-- At most one frame of Payload B fits the bits received.
-- Assumes nothing.
use mathlib.Core.Path.{◌≡◌}
use mathlib.Core.List.{List}
use Prim.Native.Nat.{ℕ, ◌%◌, ◌≤◌}
use lib.ListN.{length}
use Rattle.payload.specs.Scrambler.{start}
use Rattle.payload.specs.Wire.{Fits}
use Rattle.payload.proofs.Wires.{one_fits}
use Rattle.payload_b.specs.CodedB.{block_bytes, bits_for}
use Rattle.payload_b.specs.PromiseB.{wire_b}
use Rattle.payload_b.proofs.Blockwise.{lawful_b}

-- there are never two frames that fit
pub fits_once_b : (mode n : ℕ) → mode ≤ 2 → n % block_bytes mode ≡ 0 → (bits f g : List ℕ) → length bits ≡ bits_for mode n
    → Fits (wire_b mode n) bits f → Fits (wire_b mode n) bits g → f ≡ g
fits_once_b mode n known whole bits f g long = one_fits (lawful_b mode start n known whole) bits long f g
