-- `payload::scrambler::scramble64` meets its contract: the bits formed are added to the digits.
-- Assumes nothing.
use Rattle.payload.proofs.Forming.{scrambled_by}
use Rattle.payload.proofs.scrambler.scramble64.Goals as goal

pub returns : goal.returns
returns c =
    let a = c.args in
    (scrambled_by 64 a.x _ a.register c.form64.ensures, c.shift64.ensures)
