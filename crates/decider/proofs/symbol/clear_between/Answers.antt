-- `decider::symbol::clear_between` meets its contract: the two parts that hold no point are zeros.
-- Assumes nothing.
use Rattle.decider.proofs.Halves.{both_cleared}
use Rattle.decider.proofs.symbol.clear_between.Goals as goal

pub returns : goal.returns
returns c =
    both_cleared c.args.out.now _ _ c.requires (c.fill.ensures.after (λ y e. e)) (c.fill-2.ensures.after (λ y e. e))
