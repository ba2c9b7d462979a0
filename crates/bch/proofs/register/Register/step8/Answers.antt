-- `bch::register::Register::step8` meets its contract: what falls out counts as bits of the word.
-- Assumes nothing.
use mathlib.Core.Path.{sym, ap₂, ◌∙◌}
use Prim.Native.Nat.{◌^◌, ◌<◌}
use native.Mathlib.Omega.{arith}
use lib.Bits.{bit_xor}
use Rattle.bch.specs.Registers.{contents}
use Rattle.bch.proofs.Eights.{eight_taken}
use Rattle.bch.proofs.Triples.{joined-lt}
use Rattle.bch.proofs.register.Register.step8.Goals as goal

pub returns : goal.returns
returns c = λ g b i at high low.
    let r = c.args.self in
    let l : contents r < 2 ^ 192 = joined-lt {W = 2 ^ 64} (omega arith) (omega arith) (omega arith) in
    c.xor-2.ensures ∙ ap₂ bit_xor c.up8.ensures (c.xor.ensures ∙ ap₂ bit_xor high low)
    ∙ sym (eight_taken g (contents r) b i l at)
