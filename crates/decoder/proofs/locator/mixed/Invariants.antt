-- `decoder::locator::mixed` meets its contract: the entries before i are mixed, and the others are 0.
-- Assumes nothing.
use mathlib.Core.Path.{◌≡◌}
use lib.ListN.{length}
use Rattle.decoder.proofs.Mixes.{Mixed}
use Rattle.decoder.proofs.locator.mixed.Given as goal

abbrev pub invariant-loop-i : goal.invariant-loop-i
invariant-loop-i l = (length l.out ≡ 34) × Mixed l.state.b l.d l.state.locator l.state.other l.out l.i
