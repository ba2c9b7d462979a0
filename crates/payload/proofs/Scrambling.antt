-- Scrambled words: as long as the words, bits where those are, joined and parted where those are, and the words back when scrambled again; the register;
-- and bits scrambled where they stand, at the front of a list.
-- Assumes nothing.
use mathlib.Core.Path.{◌≡◌, refl, sym, ap, ◌∙◌}
use mathlib.Core.List.{List, [], ◌∷◌, ◌++◌}
use Prim.Native.Nat.{ℕ, zero, suc, ◌+◌, ◌/◌, ◌%◌, ◌^◌, ◌≤◌, ◌<◌}
use native.Mathlib.Nat.{zero-add, mod-lt}
use native.Mathlib.Omega.{arith}
use lib.Bits.{xor_lt}
use lib.Dec.{lit<}
use lib.ListN.{length, take, drop, length-append}
use lib.Seq.{take_at, length-take-le}
use Rattle.bits.specs.Words.{Bits}
use Rattle.ground.proofs.Xors.{xor_cancel}
use Rattle.payload.specs.Scrambler.{formed, shifted, scrambled_from, register_after}

pub formed-lt : (r : ℕ) → formed r < 2
unfolding formed
formed-lt r = xor_lt 1 (r / 2 ^ 13 % 2) (r / 2 ^ 14 % 2) (mod-lt (r / 2 ^ 13) (lit< tt)) (mod-lt (r / 2 ^ 14) (lit< tt))

pub scrambled_again : (r : ℕ) (bs : List ℕ) → scrambled_from r (scrambled_from r bs) ≡ bs
unfolding scrambled_from
scrambled_again r [] = refl
scrambled_again r (b ∷ bs) = rw (xor_cancel (formed r) b, scrambled_again (shifted r) bs)

-- so words scrambled to the same are the same
pub scrambled_inj : (r : ℕ) (a b : List ℕ) → scrambled_from r a ≡ scrambled_from r b → a ≡ b
scrambled_inj r a b e = sym (scrambled_again r a) ∙ ap (scrambled_from r) e ∙ scrambled_again r b

pub length_scrambled : (r : ℕ) (bs : List ℕ) → length (scrambled_from r bs) ≡ length bs
unfolding scrambled_from
length_scrambled r [] = refl
length_scrambled r (b ∷ bs) = rw (length_scrambled (shifted r) bs)

pub bits_scrambled : (r : ℕ) (bs : List ℕ) → Bits bs → Bits (scrambled_from r bs)
unfolding scrambled_from
bits_scrambled r [] bits = tt
bits_scrambled r (b ∷ bs) bits = (xor_lt 1 (formed r) b (formed-lt r) bits.0, bits_scrambled (shifted r) bs bits.1)

pub scrambled_append : (r : ℕ) (a b : List ℕ) → scrambled_from r (a ++ b) ≡ scrambled_from r a ++ scrambled_from (register_after (length a) r) b
unfolding scrambled_from register_after
scrambled_append r [] b = refl
scrambled_append r (x ∷ a) b = rw (scrambled_append (shifted r) a b)

-- part of them scrambled
pub scrambled_take : (n r : ℕ) (bs : List ℕ) → take n (scrambled_from r bs) ≡ scrambled_from r (take n bs)
unfolding scrambled_from
scrambled_take zero r bs = refl
scrambled_take (suc n) r [] = refl
scrambled_take (suc n) r (b ∷ bs) = rw (scrambled_take n (shifted r) bs)

pub scrambled_drop : (n r : ℕ) (bs : List ℕ) → drop n (scrambled_from r bs) ≡ scrambled_from (register_after n r) (drop n bs)
unfolding scrambled_from register_after
scrambled_drop zero r bs = refl
scrambled_drop (suc n) r [] = refl
scrambled_drop (suc n) r (b ∷ bs) = scrambled_drop n (shifted r) bs

-- the register after some bits and then more
pub register_more : (m n r : ℕ) → register_after (m + n) r ≡ register_after n (register_after m r)
unfolding register_after
register_more zero n r = ap (λ (k : ℕ). register_after k r) (zero-add n)
register_more (suc m) n r =
    let e : suc m + n ≡ suc (m + n) = omega arith in
    ap (λ (k : ℕ). register_after k r) e ∙ register_more m n (shifted r)

-- ---- scrambled at the front of a list

module _ (word part rest : List ℕ) (register k : ℕ) (room : k ≤ length word) (e : part ≡ scrambled_from register (take k word)) where
  part_long : length part ≡ k
  part_long = ap length e ∙ length_scrambled register (take k word) ∙ length-take-le k word room

  pub front_scrambled : take k (part ++ rest) ≡ scrambled_from register (take k word)
  front_scrambled = take_at part rest k part_long ∙ e

  pub front_room : k ≤ length (part ++ rest)
  front_room = omega (arith, part_long, length-append part rest)

  pub front_long : length (take k (part ++ rest)) ≡ k
  front_long = length-take-le k (part ++ rest) front_room

  pub front_bits : Bits (take k word) → Bits (take k (part ++ rest))
  front_bits bits = rw front_scrambled (bits_scrambled register (take k word) bits)
