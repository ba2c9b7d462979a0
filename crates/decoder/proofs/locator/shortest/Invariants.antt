-- `decoder::locator::shortest` meets its contract: the state is that after m pairs of syndromes.
-- Assumes nothing.
use Rattle.decoder.specs.Locators.{After}
use Rattle.decoder.proofs.locator.shortest.Given as goal

abbrev pub invariant-loop-m : goal.invariant-loop-m
invariant-loop-m l = After l.s l.m l.state
