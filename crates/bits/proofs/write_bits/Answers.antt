-- `bits::write_bits` meets its contract: what is written so far are the bits of the first i bytes.
-- Assumes nothing.
use mathlib.Core.Path.{◌≡◌, refl, sym, ap, ◌∙◌}
use mathlib.Core.List.{List, ◌++◌}
use Prim.Native.Nat.{ℕ, ◌+◌, ◌-◌, ◌*◌, ◌≤◌, ◌<◌}
use native.Mathlib.Omega.{arith}
use native.Mathlib.Numerals.{add-one}
use borrow.Rule.Slice.PartMut.{put_mid}
use lib.ListN.{length, get_or, take, drop}
use lib.Seq.{take-suc}
use Rattle.bits.specs.Words.{digits}
use Rattle.bits.proofs.Digits.{length_digits}
use Rattle.bits.specs.Bytes.{bits_of}
use Rattle.bits.proofs.Octets.{bits_of_snoc}
use Rattle.bits.proofs.Copies.{part_long, part_written}
use Rattle.bits.proofs.write_bits.Goals as goal

-- a turn: the part of eight places from i * 8 on holds the digits of the byte x at i
turn : (frame out w : List ℕ) (i k x : ℕ) → i < length frame → length out ≡ 8 * length frame → k ≡ 8 → x ≡ get_or frame i 0
    → w ≡ digits (length (take k (drop (i * 8) out))) x → take (i * 8) out ≡ bits_of (take i frame)
    → take ((i + 1) * 8) (put_mid (i * 8) k out w) ≡ bits_of (take (i + 1) frame)
turn frame out w i k x h long eight ex ew e =
    let room : i * 8 + 8 ≤ length out = omega arith in
    let end : (i + 1) * 8 ≡ i * 8 + 8 = omega arith in
    let ds : w ≡ digits 8 x = ew ∙ ap (λ (n : ℕ). digits n x) (rw eight (part_long (i * 8) 8 out room)) in
    let more : bits_of (take (i + 1) frame) ≡ bits_of (take i frame) ++ digits 8 x = rw (add-one, take-suc frame i 0 h, ← ex) (bits_of_snoc (take i frame) x) in
    rw (end, eight, ds) (part_written (i * 8) 8 out room (digits 8 x) (length_digits 8 x) ∙ rw e (sym more))

pub loop-i-init : goal.loop-i-init
unfolding bits_of
loop-i-init c = refl

pub loop-i-preserved : goal.loop-i-preserved
loop-i-preserved c =
    let l = c.loop-i in
    let frame = c.args.frame.now in
    turn frame l.out _ l.i (l.i * 8 + 8 - l.i * 8) _ (omega arith) (omega arith) (omega arith) c.from.ensures c.put_digits.ensures l.invariant
