-- A list after a part of it was written; and lists of bits: one after a bit was written, and zeros.
-- Assumes nothing.
use mathlib.Core.Path.{◌≡◌, sym, ap, ap₂, ◌∙◌}
use mathlib.Core.List.{List, [], ◌∷◌, ◌++◌, append-nil, append_assoc}
use Prim.Native.Nat.{ℕ, zero, suc, ◌+◌, ◌≤◌, ◌<◌}
use native.Mathlib.Nat.{le_refl}
use native.Mathlib.Omega.{arith}
use borrow.Rule.Slice.PartMut.{put_mid, post_of}
use lib.ListN.{length, take, drop, set, replicate, length-append, length-drop, drop_of_length-le}
use lib.Seq.{take_at, take-length, drop-drop, length-take-le}
use Rattle.bits.specs.Words.{Bits}
use Rattle.bits.proofs.Parts.{copied}

module _ (a k : ℕ) (xs : List ℕ) (fits : a + k ≤ length xs) where
  -- the part is as long as it should be
  pub part_long : length (take k (drop a xs)) ≡ k
  part_long = length-take-le k (drop a xs) (simp length-drop (omega arith))

  -- what stands up to its end
  pub part_written : (ys : List ℕ) → length ys ≡ k → take (a + k) (put_mid a k xs ys) ≡ take a xs ++ ys
  part_written ys e =
      ap (take (a + k)) (sym (append_assoc (take a xs) ys (post_of a k xs)))
      ∙ take_at (take a xs ++ ys) (post_of a k xs) (a + k) (length-append (take a xs) ys ∙ ap₂ ◌+◌ (length-take-le a xs (omega arith)) e)

-- the front of one list and the rest of another: where they are as long as one another
copied_all : (bits part : List ℕ) → length part ≡ length bits → take (length bits) bits ++ drop (length bits) part ≡ bits
copied_all bits part e = ap₂ ◌++◌ (take-length bits) (drop_of_length-le part {i = length bits} (rw e (le_refl (length bits)))) ∙ append-nil bits

-- and where the other is longer
pub front_copied : (m out after : List ℕ) (n : ℕ) → length m ≡ n → after ≡ take (length m) m ++ drop (length m) out → take n after ≡ m
front_copied m out after n long e = ap (take n) (e ∙ copied m out n long) ∙ take_at m (drop n out) n long

module _ (out bits : List ℕ) (at : ℕ) (fits : at + length bits ≤ length out) where
  -- bits put into a list, from `at` on
  pub put_part : (k : ℕ) (w : List ℕ) → k ≡ length bits → w ≡ bits → put_mid at k out w ≡ take at out ++ bits ++ drop (at + length bits) out
  put_part k w e ew = rw (ew, e, drop-drop (length bits) at out) (sym (append_assoc (take at out) bits (drop (at + length bits) out)))

  -- what stands up to their end
  pub put_behind : (p next : List ℕ) (end : ℕ) → end ≡ at + length bits → take at out ≡ p → next ≡ take at out ++ bits ++ drop (at + length bits) out
      → take end next ≡ p ++ bits
  put_behind p next end ee ep en =
      rw (en, ep) (take_at (p ++ bits) (drop (at + length bits) out) end
      (length-append p bits ∙ omega (arith, ap length ep, length-take-le at out (omega arith))))

-- ---- bits

pub bits_set : (bs : List ℕ) (i b : ℕ) → Bits bs → b < 2 → Bits (set bs i b)
bits_set [] i b h l = h
bits_set (x ∷ bs) zero b h l = (l, h.1)
bits_set (x ∷ bs) (suc i) b h l = (h.0, bits_set bs i b h.1 l)

pub bits_zeros : (n : ℕ) → Bits (replicate n 0)
bits_zeros zero = tt
bits_zeros (suc n) = (omega arith, bits_zeros n)
