-- `remainders::Seen::taken` meets its contract: what is left of the machine words is taken in after what the register has taken, and then the bytes.
-- Assumes nothing.
use mathlib.Core.Path.{◌≡◌}
use Prim.Native.Nat.{◌-◌, ◌/◌}
use Rattle.bch.specs.Registers.{contents}
use Rattle.remainders.specs.Seen.{seen}
use Rattle.remainders.specs.Taking.{machine_words_by}
use Rattle.remainders.proofs.Seen.taken.Given as goal

abbrev pub invariant-loop-i : goal.invariant-loop-i
invariant-loop-i l = machine_words_by (seen l.self) (l.bytes / 8 - l.i) l.i (contents l.r) l.words ≡ machine_words_by (seen l.self) (l.bytes / 8) 0 0 l.words
