-- `sender_b::sender::one_more` meets its contract: the piece is there, and its bits are put in behind those that wait.
-- Assumes nothing.
use mathlib.Core.Path.{◌≡◌, ap, ◌∙◌}
use Prim.Native.Nat.{◌+◌, ◌-◌}
use native.Mathlib.Omega.{arith}
use Rattle.payload_b.specs.CodedB.{bits_for}
use Rattle.payload_b.specs.ModesB.{number_of}
use Rattle.sender_b.proofs.Pieces.{few_bits}
use Rattle.sender_b.proofs.Waits.{ready_more, waiting_more}
use Rattle.sender_b.proofs.sender.one_more.Goals as goal

pub returns : goal.returns
returns c =
    let r = c.requires.0 in
    let p = c.piece.ensures in
    let bytes : c.args.from.going.at + c.piece.result - c.args.from.going.at ≡ c.piece.result = omega arith in
    let bits = c.coded_bits.ensures ∙ ap (bits_for (number_of c.args.mode)) bytes in
    let packed = rw bytes at c.pack_bytes-made.ensures in
    record {
      ready = ready_more r p _ packed.1;
      onward = omega (arith, p.some);
      few = omega (arith, bits, few_bits p);
      grows = rw bits (waiting_more r p c.args.from.bits _ c.requires.2 packed.0 c.coded.ensures c.put.ensures _);
    }
