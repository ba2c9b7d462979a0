-- `bits::put_digits` meets its contract: before what is written stand the digits of what is left of x.
-- Assumes nothing.
use Rattle.std.proofs.Common.{◌≡◌, ◌++◌, length, drop}
use Rattle.bits.specs.Words.{digits}
use Rattle.bits.proofs.put_digits.Given as goal

abbrev pub invariant-loop-i : goal.invariant-loop-i
invariant-loop-i l = digits l.i l.rest ++ drop l.i l.out ≡ digits (length l.initial.out) l.x
