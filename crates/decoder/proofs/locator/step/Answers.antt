-- `decoder::locator::step` meets its contract: each way out is a step of the algorithm.
-- Assumes nothing.
use Rattle.decoder.proofs.Recurrences.{after_none, after_keep, after_grow}
use Rattle.decoder.proofs.locator.step.Goals as goal

pub returns-then-d-eq0 : goal.returns-then-d-eq0
returns-then-d-eq0 c =
    let d = c.discrepancy-d in
    rw c.moved.ensures (after_none c.requires.1 c.requires.0 c.requires.2 d.result d.ensures.0 c.if-d-eq0.true)

pub returns-then-r-state : goal.returns-then-r-state
returns-then-r-state c =
    let d = c.discrepancy-d in
    rw c.moved-then-r-state.ensures
    (after_keep c.requires.1 c.requires.0 c.requires.2 d.result d.ensures.0 c.mixed.ensures
    c.if-r-state.true)

pub returns : goal.returns
returns c =
    let d = c.discrepancy-d in
    rw c.moved-2.ensures
    (after_grow c.requires.1 c.requires.0 c.requires.2 d.result d.ensures.0 c.mixed-2.ensures
    c.if-r-state.false d.ensures.1 c.if-d-eq0.false)
