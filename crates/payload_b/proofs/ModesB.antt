-- The modes of Payload B and their numbers: each mode has one, from 0 to 2, and each of these is a mode's.
-- Assumes nothing.
use mathlib.Core.Path.{◌≡◌, refl}
use mathlib.Core.Logic.{◌≢◌}
use Prim.Native.Nat.{ℕ, zero, suc, ◌≤◌}
use native.Mathlib.Omega.{arith}
use Rattle.payload_b.specs.ModesB.{number_of, mode_of}
use Rattle.payload_b.specs.declared.mode.ModeB.{ModeB}
use Rattle.payload_b.specs.declared.mode.ModeB.TheVariants.{Uncoded, Code1, Code2}

pub number_few : (m : ModeB) → number_of m ≤ 2
number_few Uncoded = omega arith
number_few Code1 = omega arith
number_few Code2 = omega arith

-- a number that a mode has is that of its mode
pub number_of_lem : (n : ℕ) → n ≤ 2 → number_of (mode_of n) ≡ n
number_of_lem zero h = refl
number_of_lem (suc zero) h = refl
number_of_lem (suc (suc zero)) h = refl
number_of_lem (suc (suc (suc n))) h = absurd (omega arith)

-- every mode but the uncoded one has a code
pub number_coded : (m : ModeB) → m ≢ Uncoded → number_of m ≢ 0
number_coded Uncoded not = λ e. not refl
number_coded Code1 not = λ e. omega (arith, e)
number_coded Code2 not = λ e. omega (arith, e)
