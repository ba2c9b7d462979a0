-- `bits::write_bytes` meets its contract: the first i bytes are those of the bits so far.
-- Assumes nothing.
use mathlib.Core.Path.{◌≡◌, refl, sym}
use mathlib.Core.List.{List}
use Prim.Native.Nat.{ℕ, ◌+◌, ◌*◌, ◌<◌}
use native.Mathlib.Omega.{arith}
use native.Mathlib.Numerals.{add-one}
use lib.ListN.{length, set, take, drop}
use lib.Seq.{take-suc-set}
use Rattle.bits.specs.Bytes.{as_number, bytes_of}
use Rattle.bits.proofs.Octets.{bytes_of_snoc}
use Rattle.bits.proofs.Chunks.{eight_number}
use Rattle.bits.proofs.write_bytes.Goals as goal

-- a turn: the byte x of the eight bits from 8 * i on stands at i
turn : (bits out : List ℕ) (i x : ℕ) → i < length out → x ≡ as_number (take 8 (drop (8 * i) bits)) → take i out ≡ bytes_of i bits
    → take (i + 1) (set out i x) ≡ bytes_of (i + 1) bits
turn bits out i x h byte e = rw (add-one, take-suc-set out i x h, e, byte) (sym (bytes_of_snoc i bits))

pub loop-i-init : goal.loop-i-init
unfolding bytes_of
loop-i-init c = refl

pub loop-i-preserved : goal.loop-i-preserved
loop-i-preserved c =
    let l = c.loop-i in
    let bits = c.args.bits.now in
    turn bits l.out l.i _ (omega arith) (eight_number bits _ c.as_chunks.ensures.front l.i _ (omega arith) c.eight.ensures c.eight.type_inv) l.invariant
