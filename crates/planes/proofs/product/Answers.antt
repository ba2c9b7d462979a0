-- `planes::product` meets its contract: the digits of y, the highest first.
-- Assumes nothing.
use Rattle.planes.proofs.Spelling.{product_law}
use Rattle.planes.proofs.product.Goals as goal

pub returns : goal.returns
returns c =
    product_law _ _ _ _ _ _ _ _ _ _ _
    c.only-v8.ensures
    c.next-v7.ensures
    c.next-v6.ensures
    c.next-v5.ensures
    c.next-v4.ensures
    c.next-v3.ensures
    c.next-v2.ensures
    c.next-v1.ensures
    c.next.ensures
