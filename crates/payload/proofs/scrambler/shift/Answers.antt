-- `payload::scrambler::shift` meets its contract: stage 15 falls out, and what is formed comes in.
-- Assumes nothing.
use native.Mathlib.Omega.{arith}
use Rattle.payload.specs.Scrambler.{shifted}
use Rattle.payload.proofs.scrambler.shift.Goals as goal

pub returns : goal.returns
unfolding shifted
returns c = omega arith
