-- `decoder::locator::mixed` meets its contract: the entries before i are mixed, and the others are 0.
-- Assumes nothing.
use native.Mathlib.Omega.{arith}
use Rattle.decoder.proofs.Mixes.{mixed_none, series_mixed}
use borrow.Author.Rules.{rules}
use Rattle.decoder.proofs.locator.mixed.Goals as goal

pub loop-i-init : goal.loop-i-init
loop-i-init c = (search rules, mixed_none _ _ _ _ 34)

pub returns : goal.returns
returns c = series_mixed c.loop-i.invariant.1 (omega arith) c.requires.1 c.requires.2
