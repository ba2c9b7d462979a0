-- `payload_a::check::check_of` meets its contract: what is left of the message is taken in after what the register has taken, and the end is inverted.
-- Assumes nothing.
use mathlib.Core.Path.{◌≡◌}
use Prim.Native.Nat.{◌*◌}
use lib.ListN.{drop}
use Rattle.bits.specs.Words.{lowest}
use Rattle.bits.specs.Remainders.{remainder_from}
use Rattle.payload_a.specs.Check.{check_polynomial, all_ones}
use Rattle.payload_a.proofs.check.check_of.Given as goal

abbrev pub invariant-loop-word : goal.invariant-loop-word
invariant-loop-word l =
    remainder_from 32 check_polynomial l.register (drop (8 * l.word-index) (lowest l.message))
    ≡ remainder_from 32 check_polynomial all_ones (lowest l.message)

abbrev pub invariant-loop-element : goal.invariant-loop-element
invariant-loop-element l =
    remainder_from 32 check_polynomial l.register (drop l.element-index (lowest l.rest))
    ≡ remainder_from 32 check_polynomial all_ones (lowest l.message)
