-- `payload::scrambler::scramble_last` meets its contract: byte after byte, and then all of them moved up.
-- Assumes nothing.
use mathlib.Core.Path.{ap, ◌∙◌}
use native.Mathlib.Omega.{arith}
use lib.Bits.{xor_lt}
use Rattle.bits.specs.Words.{digits}
use Rattle.payload.proofs.Forming.{scrambled_by}
use Rattle.payload.proofs.Packing.{gathered_none, gathered_more, gathered_all}
use Rattle.payload.proofs.scrambler.scramble_last.Goals as goal

pub loop-byte-init : goal.loop-byte-init
loop-byte-init c = let a = c.args in gathered_none a.register a.bytes.now

pub loop-byte-preserved : goal.loop-byte-preserved
loop-byte-preserved c =
    let l = c.loop-byte in
    let a = c.args in
    let low = xor_lt 8 _ _ (c.type_inv.bytes l.byte-index).fits c.form8.type_inv in
    gathered_more a.register a.bytes.now _ _ l.invariant (omega arith) (omega arith) (rw c.from.ensures low)
    (ap (digits 8) c.from.ensures ∙ scrambled_by 8 _ _ l.s c.form8.ensures) c.shift8-s.ensures

pub returns : goal.returns
returns c =
    let l = c.loop-byte in
    let a = c.args in
    gathered_all a.register a.bytes.now l.invariant (omega arith) (omega arith)
