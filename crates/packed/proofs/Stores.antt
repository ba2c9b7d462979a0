-- Machine words stored one after the other hold the bits of a list, 64 in each: eight that are all stored, or some among others that stay.
-- Assumes nothing.
use mathlib.Core.Path.{◌≡◌, refl, sym, ap, ap₂, ◌∙◌}
use mathlib.Core.List.{List, [], ◌∷◌, ◌++◌, zip_with}
use mathlib.Core.Logic.{◌≢◌}
use Prim.Native.Nat.{ℕ, zero, suc, ◌+◌, ◌-◌, ◌*◌, ◌≤◌, ◌<◌}
use native.Mathlib.Omega.{arith}
use native.Mathlib.Nat.{zero-add, le_of_eq}
use lib.Bits.{bit_xor}
use lib.ListN.{length, get_or, take, drop, set, length-set, take-append-drop}
use lib.Seq.{take-add, take_all, get_or-set_same, get_or-set_other}
use Rattle.ground.proofs.Zips.{length-zip_with}
use Rattle.bits.specs.Words.{digits}
use Rattle.bits.proofs.Sums.{digits-xor}
use Rattle.packed.specs.Packed.{bits_from, bits512}
use Rattle.packed.proofs.Walks.{from_append, from_one, from_set_behind, from_same, split_from, length_512, word_at}

-- so many machine words, of n and of eight, hold the first bits
abbrev pub StoredIn : ℕ → List ℕ → List ℕ → ℕ → Type 0
StoredIn n bits out w = (length out ≡ n) × (bits_from w 0 out ≡ take (64 * w) bits)

abbrev pub Stored : List ℕ → List ℕ → ℕ → Type 0
Stored bits out w = StoredIn 8 bits out w

pub stored_more : {n : ℕ} (bits out : List ℕ) (w x : ℕ) → w < n → digits 64 x ≡ take 64 (drop (64 * w) bits) → StoredIn n bits out w
    → StoredIn n bits (set out w x) (w + 1)
stored_more bits out w x h e s =
    let n : 64 * w + 64 ≡ 64 * (w + 1) = omega arith in
    let inside : w < length out = omega (arith, s.0) in (
      length-set out w x ∙ s.0,
      from_append w 1 0 (set out w x)
          ∙ ap₂ ◌++◌ (from_set_behind w 0 w x out (omega arith) ∙ s.1)
          (ap (λ (i : ℕ). bits_from 1 i (set out w x)) (zero-add w) ∙ from_one w (set out w x) ∙ ap (digits 64) (get_or-set_same out w x 0 inside) ∙ e)
          ∙ sym (take-add (64 * w) 64 bits)
          ∙ ap (λ (k : ℕ). take k bits) n,
    )

pub stored_all : (bits out : List ℕ) (w : ℕ) → length bits ≡ 512 → w ≡ 8 → Stored bits out w → bits512 out ≡ bits
unfolding bits512
stored_all bits out w long e s =
    ap (λ (n : ℕ). bits_from n 0 out) (sym e) ∙ s.1 ∙ ap (λ (n : ℕ). take (64 * n) bits) e ∙ take_all 512 bits (le_of_eq long)

-- ---- some among others

-- those behind are as they were
pub record Over (n : ℕ) (bits old out : List ℕ) (w : ℕ) : Type 0 where
  pub stored : StoredIn n bits out w
  pub kept : (k : ℕ) → w ≤ k → get_or out k 0 ≡ get_or old k 0

module _ {n : ℕ} {bits old out : List ℕ} {w : ℕ} (o : Over n bits old out w) where
  pub over_more : (x : ℕ) → w < n → digits 64 x ≡ take 64 (drop (64 * w) bits) → Over n bits old (set out w x) (w + 1)
  over_more x h e =
      let other : (k : ℕ) → w + 1 ≤ k → k ≢ w = λ k l (same : k ≡ w). omega arith in
      record {
        stored = stored_more bits out w x h e o.stored;
        kept = λ k l. get_or-set_other out w k x 0 (other k l) ∙ o.kept k (omega arith);
      }

  pub over_all : w ≤ n → drop (64 * w) bits ≡ bits_from (n - w) w old → bits_from n 0 out ≡ bits
  over_all h e =
      split_from out n w h ∙ ap₂ ◌++◌ o.stored.1 (from_same (n - w) w out old o.kept ∙ sym e) ∙ take-append-drop (64 * w) bits

-- ---- sums

module _ (f : ℕ → ℕ → ℕ) where
  take_zip : (n : ℕ) (v w : List ℕ) → take n (zip_with f v w) ≡ zip_with f (take n v) (take n w)
  unfolding zip_with
  take_zip zero v w = refl
  take_zip (suc n) [] w = refl
  take_zip (suc n) (a ∷ v) [] = refl
  take_zip (suc n) (a ∷ v) (b ∷ w) = ap (λ (l : List ℕ). f a b ∷ l) (take_zip n v w)

  drop_zip : (n : ℕ) (v w : List ℕ) → length v ≡ length w → drop n (zip_with f v w) ≡ zip_with f (drop n v) (drop n w)
  unfolding zip_with
  drop_zip zero v w e = refl
  drop_zip (suc n) [] w e = refl
  drop_zip (suc n) (a ∷ v) [] e = absurd (omega arith)
  drop_zip (suc n) (a ∷ v) (b ∷ w) e = drop_zip n v w (omega arith)

module _ (v w : List ℕ) where
  pub length_sum : length (zip_with bit_xor (bits512 v) (bits512 w)) ≡ 512
  length_sum = length-zip_with bit_xor (bits512 v) (bits512 w) (length_512 v ∙ sym (length_512 w)) ∙ length_512 v

  pub sum_at : (i : ℕ) → i < 8 → digits 64 (bit_xor (get_or v i 0) (get_or w i 0)) ≡ take 64 (drop (64 * i) (zip_with bit_xor (bits512 v) (bits512 w)))
  sum_at i h =
      digits-xor 64 (get_or v i 0) (get_or w i 0)
      ∙ sym (ap (take 64) (drop_zip bit_xor (64 * i) (bits512 v) (bits512 w) (length_512 v ∙ sym (length_512 w)))
      ∙ take_zip bit_xor 64 (drop (64 * i) (bits512 v)) (drop (64 * i) (bits512 w))
      ∙ ap₂ (zip_with bit_xor) (word_at v i h) (word_at w i h))
