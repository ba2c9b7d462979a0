-- The modes of Payload A by their numbers.
-- Assumes nothing.
use Prim.Native.Nat.{◌≤◌}
use native.Mathlib.Omega.{arith}
use Rattle.payload_a.specs.Modes.{number_of}
use Rattle.payload_a.specs.declared.mode.ModeA.{ModeA}
use Rattle.payload_a.specs.declared.mode.ModeA.TheVariants.{Uncoded, Coded}

pub known : (mode : ModeA) → number_of mode ≤ 1
known Uncoded = omega arith
known Coded = omega arith
