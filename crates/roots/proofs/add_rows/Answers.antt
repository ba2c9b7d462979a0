-- `roots::add_rows` meets its contract.
-- Assumes nothing.
use borrow.Author.Rules.{rules}
use Rattle.roots.proofs.Rows.{plus_all}
use Rattle.roots.proofs.add_rows.Goals as goal

pub returns : goal.returns
returns c =
    plus_all _ _ _ _ _ _ _ _ c.sum-v1.ensures c.sum-v2.ensures c.sum-v3.ensures c.sum-v4.ensures c.sum-v5.ensures c.sum-v6.ensures
    c.sum-v7.ensures _ _ _ _ _ _ _ _ _ (search rules) c.add_at.ensures c.add_at-2.ensures c.add_at-3.ensures c.add_at-4.ensures
    c.add_at-5.ensures c.add_at-6.ensures c.add_at-7.ensures c.add_at-8.ensures
