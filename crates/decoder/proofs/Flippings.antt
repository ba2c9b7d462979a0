-- A word with places flipped: one place more, its length and its bits; and such a word in front of a lent list, flipped there.
-- Assumes nothing.
use mathlib.Core.Path.{◌≡◌, refl, sym, ap, ◌∙◌}
use mathlib.Core.List.{List, [], ◌∷◌, ◌++◌}
use Prim.Native.Nat.{ℕ, suc, ◌-◌, ◌≤◌, ◌<◌}
use native.Mathlib.Omega.{arith}
use lib.ListN.{length, take, drop, get_or, set, length-append, length-drop, length-set, get_or-append}
use lib.Seq.{take-suc, drop-append_seam, set-append_left}
use Rattle.bits.specs.Words.{Bits}
use Rattle.bits.specs.Places.{flipped_at}
use Rattle.bits.proofs.Digits.{bits_at}
use Rattle.bits.proofs.Copies.{bits_set}

-- one bit flipped
abbrev flip : List ℕ → ℕ → List ℕ
flip word p = set word p (1 - get_or word p 0)

flipped_more : (ps : List ℕ) (p : ℕ) (word : List ℕ) → flipped_at (ps ++ (p ∷ [])) word ≡ flip (flipped_at ps word) p
unfolding flipped_at
flipped_more [] p word = refl
flipped_more (q ∷ ps) p word = flipped_more ps p (flip word q)

length_flipped : (ps word : List ℕ) → length (flipped_at ps word) ≡ length word
unfolding flipped_at
length_flipped [] word = refl
length_flipped (p ∷ ps) word = length_flipped ps (flip word p) ∙ length-set word p (1 - get_or word p 0)

bits_flipped : (ps word : List ℕ) → Bits word → Bits (flipped_at ps word)
unfolding flipped_at
bits_flipped [] word h = h
bits_flipped (p ∷ ps) word h = bits_flipped ps (flip word p) (bits_set word p (1 - get_or word p 0) h (omega arith))

-- in front of a list
flip_front : (word rest : List ℕ) (p : ℕ) → p < length word → flip (word ++ rest) p ≡ flip word p ++ rest
flip_front word rest p h = ap (λ (b : ℕ). set (word ++ rest) p (1 - b)) (get_or-append word rest 0 p h) ∙ set-append_left word rest p (1 - get_or word p 0) h

-- such a word stands at the front of a lent list: that of the first j places listed
pub record Front (list word old : List ℕ) (j : ℕ) (out : List ℕ) : Type 0 where
  pub long : length out ≡ length old
  pub is : out ≡ flipped_at (take j list) word ++ drop (length word) old

module _ (list word old : List ℕ) where
  -- the word is copied there
  pub front_copied : {out : List ℕ} → length word ≤ length old → out ≡ word ++ drop (length word) old → Front list word old 0 out
  unfolding flipped_at
  front_copied room e = record { long = ap length e ∙ length-append word (drop (length word) old) ∙ omega (arith, length-drop (length word) old); is = e }

  -- what follows it is as before
  behind : {out : List ℕ} → Front list word old 0 out → drop (length word) out ≡ drop (length word) old
  unfolding flipped_at
  behind front = ap (drop (length word)) front.is ∙ drop-append_seam word (drop (length word) old)

  pub front_again : {out : List ℕ} → Front list word old 0 out → Front list word out 0 out
  front_again {out} front = record { long = refl; is = front.is ∙ ap (λ (l : List ℕ). flipped_at (take 0 list) word ++ l) (sym (behind front)) }

  pub front_onto : {first out : List ℕ} {j : ℕ} → Front list word old 0 first → Front list word first j out → Front list word old j out
  front_onto {first} {out} {j} a b = record {
    long = b.long ∙ a.long;
    is = b.is ∙ ap (λ (l : List ℕ). flipped_at (take j list) word ++ l) (behind a);
  }

module _ (list word old out : List ℕ) (j : ℕ) (low : j < length list) (inside : get_or list j 0 < length word) (front : Front list word old j out) where
  -- there is a bit
  pub front_bit : Bits word → get_or out (get_or list j 0) 0 < 2
  front_bit bits =
      let now = flipped_at (take j list) word in
      rw (front.is, get_or-append now (drop (length word) old) 0 (get_or list j 0) (omega (arith, length_flipped (take j list) word)))
      (bits_at now (bits_flipped (take j list) word bits) (get_or list j 0))

  -- and with it flipped
  pub front_more : Front list word old (suc j) (flip out (get_or list j 0))
  front_more =
      let p = get_or list j 0 in
      let now = flipped_at (take j list) word in
      let rest = drop (length word) old in
      record {
        long = length-set out p (1 - get_or out p 0) ∙ front.long;
        is = ap (λ (l : List ℕ). flip l p) front.is ∙ flip_front now rest p (omega (arith, length_flipped (take j list) word))
            ∙ ap (λ (l : List ℕ). l ++ rest) (sym (ap (λ (ps : List ℕ). flipped_at ps word) (take-suc list j 0 low) ∙ flipped_more (take j list) p word));
      }
