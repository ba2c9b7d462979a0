-- A frame's bits, put at the front of a list.
-- Assumes nothing.
use mathlib.Core.Path.{◌≡◌, sym, ap, ◌∙◌}
use mathlib.Core.List.{List}
use Prim.Native.Nat.{ℕ, ◌*◌}
use borrow.Rule.Slice.PartMut.{put_mid}
use lib.ListN.{length, take, drop}
use lib.Seq.{take_at}
use Rattle.bits.specs.Bytes.{bits_of}
use Rattle.bits.proofs.Octets.{length-bits_of}

module _ (frame out bits : List ℕ) (e : bits ≡ bits_of frame) (k : ℕ) (ek : k ≡ 8 * length frame) where
  pub bits_long : length bits ≡ k
  bits_long = ap length e ∙ length-bits_of frame ∙ sym ek

  -- the part that they were put into
  pub bits_put : take k (put_mid 0 k out bits) ≡ bits_of frame
  bits_put = take_at bits (drop k out) k bits_long ∙ e
