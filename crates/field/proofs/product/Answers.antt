-- `field::product` meets its contract: our tables give the product.
-- Assumes nothing.
use Rattle.field.specs.Tables.{product_from}
use Rattle.field.proofs.Constants.{logarithms_are, powers_at}
use Rattle.field.proofs.Logarithms.{product_from_lem}
use Rattle.field.proofs.product.Goals as goal

pub returns : goal.returns
unfolding product_from
returns c =
    rw (c.power_at.ensures, c.log_at.ensures.0, c.log_at-2.ensures.0, powers_at, logarithms_are) (product_from_lem c.args.x c.args.y)
