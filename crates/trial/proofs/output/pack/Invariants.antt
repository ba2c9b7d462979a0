-- `trial::output::pack` meets its contract: what is written so far are the bytes of the first i levels.
use Rattle.std.proofs.Common.{◌≡◌, ◌-◌, ◌*◌, ◌≤◌, length, take}
use Rattle.trial.specs.Format.{pairs}
use Rattle.trial.proofs.Packing.{numbers}
use Rattle.trial.proofs.output.pack.Given as goal

abbrev pub invariant-loop-i : goal.invariant-loop-i
invariant-loop-i l = take (l.i * 2) l.bytes ≡ pairs (take l.i (numbers l.levels))
