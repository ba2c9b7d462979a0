-- `bch::register::sixteen` meets its contract: the remainder of four bits is the sum of those of single bits.
-- Assumes nothing.
use mathlib.Core.Path.{◌∙◌}
use Rattle.bch.specs.Registers.{contents, whole}
use Rattle.bch.proofs.Eights.{four_chosen}
use Rattle.bch.proofs.register.sixteen.Goals as goal

pub returns : goal.returns
returns c = λ k known i z l.
    let s = c.args in
    c.chosen.ensures i z l
    ∙ four_chosen (whole s.g) i k (contents s.x) _ _ _ known c.step-b.ensures c.step-c.ensures c.step-d.ensures
