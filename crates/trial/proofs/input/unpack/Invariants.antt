-- `trial::input::unpack` meets its contract: the levels read, and then those of the bytes that are left.
use Rattle.std.proofs.Common.{◌≡◌, ◌-◌, ◌*◌, ◌≤◌, ◌++◌, length, take, drop}
use Rattle.trial.specs.Format.{levels_in}
use Rattle.trial.proofs.input.unpack.Given as goal

abbrev pub invariant-loop-i : goal.invariant-loop-i
invariant-loop-i l =
    (take l.i l.levels ++ levels_in (length l.initial.levels - l.i) (drop (l.i * 2) l.bytes) ≡ levels_in (length l.initial.levels) l.bytes)
