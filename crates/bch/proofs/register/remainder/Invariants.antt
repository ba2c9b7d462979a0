-- `bch::register::remainder` meets its contract: what is left of the word is taken in after what the register has taken.
-- Assumes nothing.
use mathlib.Core.Path.{◌≡◌}
use Prim.Native.Nat.{◌*◌}
use lib.ListN.{drop}
use Rattle.bits.specs.Words.{lowest}
use Rattle.bch.specs.Registers.{contents, whole}
use Rattle.bits.specs.Remainders.{remainder, remainder_from}
use Rattle.bch.proofs.register.remainder.Given as goal

abbrev pub invariant-loop-eight : goal.invariant-loop-eight
invariant-loop-eight l =
    remainder_from 192 (whole l.g) (contents l.r) (drop (8 * l.eight-index) (lowest l.word)) ≡ remainder 192 (whole l.g) (lowest l.word)

abbrev pub invariant-loop-b : goal.invariant-loop-b
invariant-loop-b l = remainder_from 192 (whole l.g) (contents l.r) (drop l.b-index (lowest l.rest)) ≡ remainder 192 (whole l.g) (lowest l.word)
