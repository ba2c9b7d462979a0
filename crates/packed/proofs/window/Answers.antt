-- `packed::window` meets its contract: machine word after machine word, each across two of those that are read.
-- Assumes nothing.
use mathlib.Core.Path.{refl, ◌∙◌}
use native.Mathlib.Omega.{arith}
use Rattle.packed.proofs.Walks.{from_none}
use Rattle.packed.proofs.Windows.{across_known, window_of, length_window, window_at}
use Rattle.packed.proofs.Stores.{stored_more, stored_all}
use Rattle.packed.proofs.window.Goals as goal

pub loop-w-init : goal.loop-w-init
loop-w-init c = (refl, from_none 0 _)

pub loop-w-preserved : goal.loop-w-preserved
loop-w-preserved c =
    let l = c.loop-w in
    let a = c.args in
    let ws = a.words.now in
    let read = c.across.ensures ∙ across_known a.at c.word_at.ensures c.word_at-in-loop-w.ensures in
    let here = window_at ws a.at l.w c.across.result (omega arith) read in
    stored_more (window_of ws a.at) l.out l.w _ (omega arith) here l.invariant

pub returns : goal.returns
returns c =
    let l = c.loop-w in
    let a = c.args in
    let ws = a.words.now in
    stored_all (window_of ws a.at) l.out l.w (length_window ws a.at) (omega arith) l.invariant
