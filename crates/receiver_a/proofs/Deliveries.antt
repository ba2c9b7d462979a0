-- Bits unscrambled: where their check is right they were sent for the frame that they hold, and where it is wrong for no frame.
-- Assumes nothing.
use mathlib.Core.Path.{◌≡◌, refl, sym, ap, ◌∙◌}
use mathlib.Core.List.{List, ◌++◌}
use Prim.Native.Nat.{ℕ}
use lib.ListN.{length, take, drop}
use lib.Seq.{take_at, drop_at}
use Rattle.bits.specs.Words.{digits}
use Rattle.bits.specs.Bytes.{bits_of}
use Rattle.payload_a.specs.Check.{check_of, with_check}
use Rattle.payload.specs.Scrambler.{start, scrambled, scrambled_from}
use Rattle.payload_a.specs.CodedA.{information}
use Rattle.payload_a.proofs.Checks.{take-with_check, drop-with_check}
use Rattle.payload.proofs.Scrambling.{scrambled_again}

-- the bits unscrambled are a message, with this check, and the rest
pub record Parted (bits message rest : List ℕ) (check : ℕ) : Type 0 where
  pub whole : message ++ rest ≡ scrambled_from start bits
  pub formed : check ≡ check_of message

module _ {bits message rest : List ℕ} {check : ℕ} (parted : Parted bits message rest check) where
  -- the rest is the check: a frame with this message was sent
  pub right_check : rest ≡ digits 32 check → (frame : List ℕ) → bits_of frame ≡ message → information frame ≡ bits
  unfolding scrambled with_check
  right_check r frame e =
      let all : with_check (bits_of frame) ≡ scrambled_from start bits = rw (e, ← parted.formed, ← r) parted.whole in
      ap (scrambled_from start) all ∙ scrambled_again start bits

  -- it is not: no frame as long was sent
  pub wrong_check : (rest ≡ digits 32 check → ⊥) → (frame : List ℕ) → length (bits_of frame) ≡ length message → information frame ≡ bits → ⊥
  unfolding scrambled
  wrong_check wrong frame long e =
      let p = bits_of frame in
      let n = length message in
      let all : message ++ rest ≡ with_check p = parted.whole ∙ ap (scrambled_from start) (sym e) ∙ scrambled_again start (with_check p) in
      let first : message ≡ p = sym (take_at message rest n refl) ∙ ap (take n) all ∙ take-with_check p n long in
      wrong (sym (drop_at message rest n refl) ∙ ap (drop n) all ∙ drop-with_check p n long ∙ ap (digits 32) (ap check_of (sym first) ∙ sym parted.formed))
