-- `receiver_b::stream::left` meets its contract: the bits that wait are the first of the 512 of the run from where they stand.
-- Assumes nothing.
use mathlib.Core.Path.{ap, ◌∙◌}
use mathlib.Core.List.{List}
use Prim.Native.Nat.{ℕ, ◌-◌}
use native.Mathlib.Omega.{arith}
use lib.ListN.{take, drop}
use Rattle.packed.specs.Packed.{bits_from, padded}
use Rattle.packed.proofs.Fronts.{window_front}
use Rattle.receiver_b.proofs.Leaving.{left_some, left_none}
use Rattle.receiver_b.proofs.stream.left.Goals as goal

pub returns-then-s-blocks : goal.returns-then-s-blocks
returns-then-s-blocks c =
    let a = c.args in
    let n = a.s.count in
    let at = a.total - n in
    let next = c.if-s-blocks.true in
    left_some a.blocks (drop at (bits_from 41 0 a.run.now)) a.s next
    (c.first-block.ensures ∙ ap (λ (w : List ℕ). padded (take n w)) c.window.ensures
    ∙ ap padded (window_front a.run.now 41 at n (c.requires.short next) (omega (arith, c.requires.within, c.requires.fewer))))

pub returns : goal.returns
returns c =
    let a = c.args in
    left_none a.blocks (drop (a.total - a.s.count) (bits_from 41 0 a.run.now)) a.s c.if-s-blocks.false
