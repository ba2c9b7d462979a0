-- `bits::eight` meets its contract: the lowest digits side by side in a number, and then together at the top of a product.
-- Assumes nothing.
use mathlib.Core.Path.{ap, ◌∙◌}
use Rattle.std.specs.Int.Bits.{bit_and}
use Rattle.bits.specs.Words.{digits}
use Rattle.bits.proofs.Sides.{gathered, eight_digits}
use Rattle.bits.proofs.eight.Goals as goal

pub returns : goal.returns
returns c =
    ap (λ n. digits 8 (gathered (bit_and n 0x0101010101010101))) c.from_le_bytes-ones.ensures ∙ eight_digits c.args.bits.now c.told-bits c.fits-bits
