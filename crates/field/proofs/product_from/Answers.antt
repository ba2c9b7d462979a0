-- `field::product_from` meets its contract: it reads what the definition reads.
-- Assumes nothing.
use mathlib.Core.Path.{refl}
use Rattle.field.specs.Tables.{product_from}
use Rattle.field.proofs.product_from.Goals as goal

pub returns : goal.returns
unfolding product_from
returns c = rw (c.min.ensures, c.from-i.ensures, c.from-j.ensures, c.from.ensures, c.from-2.ensures) refl
