-- `payload::scrambler::form14` meets its contract: digits of the register added to itself moved by one stage.
-- Assumes nothing.
use native.Mathlib.Nat.{mod-lt}
use lib.Bits.{bit_xor}
use lib.Dec.{lit<}
use Prim.Native.Nat.{◌/◌}
use Rattle.payload.proofs.Forming.{fourteen_formed}
use Rattle.payload.proofs.scrambler.form14.Goals as goal

pub returns : goal.returns
returns c =
    let r = c.args.register in
    (fourteen_formed r, mod-lt (bit_xor r (r / 2)) (lit< tt))
