-- `bits::as_number` meets its contract: x is the number of the bits so far, modulo 2^32.
-- Assumes nothing.
use mathlib.Core.Path.{◌≡◌, ap, ◌∙◌}
use mathlib.Core.List.{List}
use Prim.Native.Nat.{ℕ, ◌+◌, ◌*◌, ◌%◌, ◌^◌, ◌<◌}
use native.Mathlib.Omega.{arith}
use native.Mathlib.Numerals.{add-one}
use lib.ListN.{length, get_or, take}
use lib.Seq.{take-suc}
use Rattle.bits.specs.Bytes.{as_number}
use Rattle.bits.proofs.Numbers.{number_nil, number_snoc}
use Rattle.bits.proofs.as_number.Goals as goal

-- a turn: the bit at i is one digit more
turn : (bits : List ℕ) (i x b : ℕ) → i < length bits → b ≡ get_or bits i 0 % 2 → x ≡ as_number (take i bits) % 2 ^ 32
    → x % 2147483648 * 2 + b ≡ as_number (take (i + 1) bits) % 2 ^ 32
turn bits i x b h eb e =
    let more : as_number (take (i + 1) bits) ≡ 2 * as_number (take i bits) + get_or bits i 0 % 2
    = rw add-one (ap as_number (take-suc bits i 0 h) ∙ number_snoc (take i bits) (get_or bits i 0)) in
    omega arith

pub loop-b-init : goal.loop-b-init
loop-b-init c = omega (arith, number_nil)

pub loop-b-preserved : goal.loop-b-preserved
loop-b-preserved c =
    let l = c.loop-b in
    turn c.args.bits.now l.b-index l.x _ (omega arith) c.from.ensures l.invariant
