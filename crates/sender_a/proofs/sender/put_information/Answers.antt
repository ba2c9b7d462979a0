-- `sender_a::sender::put_information` meets its contract: the check of the frame's bits stands behind them, and both are scrambled.
-- Assumes nothing.
use mathlib.Core.Path.{◌≡◌, refl, ap, ◌∙◌}
use mathlib.Core.List.{List, ◌++◌, append-nil}
use Prim.Native.Nat.{ℕ, ◌+◌, ◌-◌}
use native.Mathlib.Omega.{arith}
use borrow.Rule.Slice.PartMut.{put_mid, mid_of}
use lib.ListN.{length, take, drop, length-append, length-drop}
use lib.Seq.{drop-length, length-take-le}
use Rattle.bits.specs.Words.{digits}
use Rattle.bits.specs.Bytes.{bits_of}
use Rattle.payload.specs.Scrambler.{scrambled}
use Rattle.payload_a.specs.Check.{check_of, with_check}
use Rattle.bits.proofs.Digits.{lowest_same}
use Rattle.bits.proofs.Octets.{length-bits_of, bits_bits_of, bits_there}
use Rattle.bits.proofs.Parts.{second_long, both_written}
use Rattle.bits.proofs.Informing.{bits_put}
use Rattle.sender_a.proofs.sender.put_information.Goals as goal

-- bits at the front of a list, and the digits of their check in the rest, where there is room for 32
module _ (bits out : List ℕ) (n : ℕ) (e : length bits ≡ n) (long : n + 32 ≡ length out) where
  abbrev front : List ℕ
  front = bits ++ drop n out

  front_long : length front ≡ length out
  front_long = length-append bits (drop n out) ∙ omega (arith, length-drop n out)

  check_behind : (check : ℕ) → check ≡ check_of bits
      → put_mid n (length front - n) front (digits (length (mid_of n (length front - n) front)) check) ≡ with_check bits
  unfolding with_check
  check_behind check made =
      let room : length (mid_of n (length out - n) front) ≡ 32 = second_long out bits n (length out) e (omega arith) (omega arith) ∙ omega arith in
      rw (front_long, room, made)
      (both_written out bits n (length out) e (omega arith) _ ∙ ap (λ (rest : List ℕ). with_check bits ++ rest) (drop-length out) ∙ append-nil (with_check bits))

pub returns : goal.returns
unfolding scrambled
returns c =
    let frame = c.args.frame.now in
    let out = c.args.out.now in
    let n = length out - 32 in
    let there = bits_there frame (take n out) c.put_bits.ensures (length-take-le n out (omega arith) ∙ omega arith) in
    let put = bits_put frame out _ there n (omega arith) in
    let read = lowest_same (bits_of frame) (bits_bits_of frame) in
    let check = c.check_of-check.ensures ∙ ap check_of (rw (put, read) refl) in
    let all = check_behind (bits_of frame) out n (length-bits_of frame ∙ omega arith) (omega arith) _ check in
    rw (c.put_digits.ensures, there, all) at c.scramble.ensures.0
