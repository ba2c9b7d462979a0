-- `receiver_a::receiver::deliver` meets its contract: a frame is written exactly where the check is right.
-- Assumes nothing.
use mathlib.Core.Path.{◌≡◌, refl, ap, ◌∙◌}
use mathlib.Core.List.{List}
use Prim.Native.Nat.{ℕ, ◌-◌, ◌*◌}
use native.Mathlib.Omega.{arith}
use lib.ListN.{length, take, drop, length-drop, take-append-drop}
use lib.Seq.{take_all}
use borrow.Author.Rules.{rules}
use Rattle.bits.specs.Words.{Bits, lowest}
use Rattle.bits.proofs.Copies.{part_long}
use Rattle.bits.proofs.Digits.{bits_take, bits_drop}
use Rattle.bits.proofs.Octets.{bytes_from, bytes_there, length-bits_of}
use Rattle.payload.specs.Scrambler.{start, scrambled_from}
use Rattle.payload.proofs.Scrambling.{length_scrambled, bits_scrambled}
use Rattle.payload_a.specs.Check.{check_of}
use Rattle.payload_a.proofs.Checks.{check_read}
use Rattle.receiver_a.proofs.Deliveries.{Parted, right_check, wrong_check}
use Rattle.receiver_a.proofs.receiver.deliver.Goals as goal

-- bits unscrambled, a part of them, and the message with the rest
module _ (bits : List ℕ) {held : List ℕ} (unscrambled : held ≡ scrambled_from start bits) where
  held_long : length held ≡ length bits
  held_long = ap length unscrambled ∙ length_scrambled start bits

  module _ (are_bits : Bits bits) where
    part_bits : (at n : ℕ) → Bits (take n (drop at held))
    part_bits at n = bits_take n (drop at held) (bits_drop at held (rw unscrambled (bits_scrambled start bits are_bits)))

    parted : (n check : ℕ) → check ≡ check_of (lowest (take (n - 0) held))
        → Parted bits (take (n - 0) held) (take (length bits - n) (drop n held)) check
    parted n check formed =
        let front : n - 0 ≡ n = omega arith in
        let all = take_all (length bits - n) (drop n held) (rw length-drop (omega (arith, held_long))) in
        record {
          whole = rw (front, all) (take-append-drop n held ∙ unscrambled);
          formed = check_read (take (n - 0) held) check (part_bits 0 (n - 0)) formed;
        }

pub is_check-requires : goal.is_check-requires
is_check-requires c =
    let n = length c.args.area.now * 8 in
    let held = c.scramble.ensures.0 in
    let long = part_long n (length c.args.bits.now - n) c.scramble.new.bits (omega (arith, held_long _ held)) in
    (part_bits _ held c.requires.0 n (length c.args.bits.now - n), long ∙ omega arith)

pub returns : goal.returns
returns c =
    let n = length c.args.area.now * 8 in
    let held = c.scramble.ensures.0 in
    let put = c.put_bytes in
    let parts = parted _ held c.requires.0 n c.check_of-check.result c.check_of-check.ensures in
    let long = part_long 0 (n - 0) c.scramble.new.bits (omega (arith, held_long _ held)) in
    let there = bytes_there (take (n - 0) c.scramble.new.bits) c.args.area.now put.ensures (part_bits _ held c.requires.0 0 (n - 0)) (omega (arith, long)) in
    (omega arith, bytes_from put.new.out (λ i. search rules), right_check parts (c.is_check.ensures.0 c.if-not-is_check.false) put.new.out there)

pub returns-then-not-is_check : goal.returns-then-not-is_check
returns-then-not-is_check c =
    let n = length c.args.area.now * 8 in
    let held = c.scramble.ensures.0 in
    let parts = parted _ held c.requires.0 n c.check_of-check.result c.check_of-check.ensures in
    let long = part_long 0 (n - 0) c.scramble.new.bits (omega (arith, held_long _ held)) in
    (refl, refl, λ frame same. wrong_check parts (c.is_check.ensures.1 c.if-not-is_check.true) frame (length-bits_of frame ∙ omega (arith, long)))
