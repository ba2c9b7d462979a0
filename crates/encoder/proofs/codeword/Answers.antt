-- `encoder::codeword` meets its contract: the remainder is put behind the information.
-- Assumes nothing.
use native.Mathlib.Omega.{arith}
use Rattle.encoder.proofs.PackedCodewords.{codeword_packed}
use Rattle.encoder.proofs.codeword.Goals as goal

-- `good` is there for `omega` to read: the machine words of the register are below 2 ^ 64
pub returns : goal.returns
returns c =
    let r = c.remainder-r.result in
    let good = c.remainder-r.type_inv in
    codeword_packed c.requires.0 c.args.information c.requires.2 r.high r.mid r.low
    (omega arith) (omega arith) (omega arith) c.remainder-r.ensures c.down-behind.result c.xor.result c.down-behind.ensures c.xor.ensures
