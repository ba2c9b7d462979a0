-- `symbols::phases::read` meets its contract: the phases are read in halves, then their turns; where there is no room, nothing is.
-- Assumes nothing.
use mathlib.Core.Path.{◌≡◌, refl, sym, ap, ◌∙◌}
use mathlib.Core.List.{List, ◌++◌}
use Prim.Native.Nat.{ℕ}
use native.Mathlib.Omega.{arith}
use lib.ListN.{length, get_or, take, drop, replicate}
use lib.Seq.{drop_at}
use borrow.Rule.Slice.PartMut.{put_mid}
use Rattle.symbols.specs.ByPhase.{phases_read, dibits_between}
use Rattle.symbols.proofs.Dibits.{halves_read, last_read}
use Rattle.symbols.proofs.phases.read.Goals as goal
use Rattle.symbols.proofs.phases.read.Goals.{After-put_phases-2}

-- both halves
whole : (c : After-put_phases-2)
    → put_mid 105 105 (c.put_phases.new.out ++ replicate 105 0) c.put_phases-2.new.out ≡ phases_read c.args.i.now c.args.q.now
whole c =
    let one = c.put_phases in
    let two = c.put_phases-2 in
    let left : length (take 105 (drop 105 (one.new.out ++ replicate 105 0))) ≡ 105
    = ap (λ (rest : List ℕ). length (take 105 rest)) (drop_at one.new.out (replicate 105 0) 105 one.ensures.0) in
    halves_read c.args.i.now c.args.q.now one.new.out two.new.out one.ensures.0 (two.ensures.0 ∙ left)
    one.ensures.1 (λ s h. two.ensures.1 s (omega (arith, left))) (replicate 105 0) refl

pub returns : goal.returns
returns c =
    let a = c.args in
    let phases = whole (goal.at.returns c).After-put_phases-2 in
    rw (sym c.room.ensures ∙ c.if-not-room.false)
    (c.dibits.ensures ∙ ap (dibits_between a.phase) phases, ap (λ (phases : List ℕ). get_or phases 209 0) phases ∙ sym (last_read a.phase a.i.now a.q.now))
