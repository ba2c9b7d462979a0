-- `trial::output::pack_places` meets its contract: what is written so far are the bytes of the first i places.
use Rattle.std.proofs.Common.{◌≡◌, ◌-◌, ◌*◌, ◌≤◌, length, take}
use Rattle.trial.specs.Format.{pairs}
use Rattle.trial.proofs.output.pack_places.Given as goal

abbrev pub invariant-loop-i : goal.invariant-loop-i
invariant-loop-i l = take (l.i * 2) l.bytes ≡ pairs (take l.i l.places)
