-- `receiver_b::stream::take_bytes` meets its contract: the bytes written are so many blocks of the frame.
-- Assumes nothing.
use mathlib.Core.Path.{◌≡◌, ◌∙◌}
use Prim.Native.Nat.{◌+◌, ◌-◌, ◌≤◌}
use native.Mathlib.Omega.{arith}
use borrow.Rule.Slice.PartMut.{mid_of, put_mid, mid_len}
use lib.ListN.{length}
use Rattle.bits.proofs.Octets.{bytes_from}
use Rattle.receiver_b.proofs.Plain.{takes_bytes}
use Rattle.receiver_b.proofs.stream.take_bytes.Goals as goal

pub returns : goal.returns
returns c =
    let write = c.write_bytes-register in
    let m = c.min-m in
    let a = c.args in
    let at = a.from.done in
    let out = write.new.out in
    let end = at + m.result in
    let fits : end ≤ length a.area.now = omega (arith, m.ensures, c.requires.room, c.requires.next) in
    let long : length (mid_of at (end - at) a.area.now) ≡ m.result = omega (arith, mid_len at end a.area.now fits) in
    let put = put_mid at (end - at) a.area.now out in
    rw (write.ensures.2, long)
    (takes_bytes c.requires a.run.now m.ensures out (write.ensures.0 ∙ long) (rw long at write.ensures.1)
    (bytes_from put (λ i. omega (arith, c.type_inv.area i))))
