-- `symbols::quick::is_empty` meets its contract: the parts of both lists are 0.
-- Assumes nothing.
use borrow.Author.Tests.{eqb-true}
use Rattle.symbols.proofs.Ors.{or_none}
use Rattle.symbols.proofs.Looks.{part_zeros}
use Rattle.symbols.proofs.quick.is_empty.Goals as goal

pub returns : goal.returns
returns c = λ e k a b.
    let none = or_none _ _ (eqb-true _ 0 e) in (
      part_zeros c.args.i.now c.args.from c.args.end c.requires.1 (c.any.ensures none.0) k a b,
      part_zeros c.args.q.now c.args.from c.args.end c.requires.2 (c.any-2.ensures none.1) k a b,
    )
