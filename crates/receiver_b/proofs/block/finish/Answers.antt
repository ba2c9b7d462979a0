-- `receiver_b::block::finish` meets its contract: the information of the mended block, unscrambled, is written as bytes.
-- Assumes nothing.
use mathlib.Core.Path.{refl}
use native.Mathlib.Omega.{arith}
use lib.ListN.{length}
use Rattle.bits.proofs.Octets.{bytes_from}
use Rattle.payload_b.specs.ModesB.{number_of}
use Rattle.payload_b.proofs.ModesB.{number_few}
use Rattle.receiver_b.proofs.Mending.{mended_packed, informs_writes}
use Rattle.receiver_b.proofs.block.finish.Goals as goal

pub returns-in_default : goal.returns-in_default
returns-in_default c =
    let a = c.args in
    let r = c.decode_packed-decoded.result in
    let decoded = rw c.code.ensures at c.decode_packed-decoded.ensures in
    let ended = mended_packed (number_of a.mode) c.requires.0 (number_few a.mode) a.block r.told r.bits decoded in
    (rw c.in_default.is at ended, refl)

pub returns : goal.returns
returns c =
    let a = c.args in
    let r = c.decode_packed-decoded.result in
    let decoded = rw c.code.ensures at c.decode_packed-decoded.ensures in
    let ended = mended_packed (number_of a.mode) c.requires.0 (number_few a.mode) a.block r.told r.bits decoded in
    let mended = rw c.in-Ok.is at ended in
    let write = c.write_bytes-register in
    let out = write.new.out in
    informs_writes r.bits mended a.register write.result (length a.out.now) out c.requires.1 write.ensures.0
    (bytes_from out (λ i. omega (arith, c.type_inv.out i))) write.ensures.1 write.ensures.2
