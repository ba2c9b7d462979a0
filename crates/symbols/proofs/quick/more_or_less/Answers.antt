-- `symbols::quick::more_or_less` meets its contract: an XOR is 0 only where its parts are the same.
-- Assumes nothing.
use native.Mathlib.Omega.{arith}
use lib.Bits.{bit_xor}
use Rattle.symbols.proofs.Ors.{or_none, xor_none}
use Rattle.symbols.proofs.quick.more_or_less.Goals as goal

pub returns-else-e-eq0 : goal.returns-else-e-eq0
returns-else-e-eq0 c = λ e.
    let a = c.args in
    let none = or_none (bit_xor a.e 1) a.f e in
    omega (arith, xor_none a.e 1 none.0, none.1)
