-- Places listed one after the other: how many, and what the list holds; those of the 1s in machine words.
-- Assumes nothing.
use mathlib.Core.Path.{◌≡◌, refl, sym, ap, ◌∙◌}
use mathlib.Core.List.{List, [], ◌∷◌, ◌++◌, append_assoc, append-nil}
use Prim.Native.Nat.{ℕ, suc, ◌+◌, ◌-◌, ◌*◌, ◌/◌, ◌^◌, ◌≤◌, ◌<◌}
use native.Mathlib.Nat.{add-zero}
use native.Mathlib.Omega.{arith}
use borrow.Author.Tests.{lt-ltb}
use lib.Bits.{bit_xor}
use lib.Count.{count_leading_zeros}
use lib.ListN.{length, get_or, set, replicate, length-append}
use Rattle.answers.specs.Answers.{listed}
use Rattle.bits.specs.Words.{digits}
use Rattle.bits.proofs.Digits.{length_digits}
use Rattle.bits.proofs.Placing.{set_behind}
use Rattle.packed.specs.Packed.{bits_from, bits512}
use Rattle.decoder.specs.Marks.{ones_from, ones_of, one_more, all_more, Listing}
use Rattle.decoder.specs.declared.search.Flips.{Flips}
use Rattle.decoder.proofs.Ones.{ones_append, ones_le, ones_first, ones_none}

-- ---- a list of places, and more

listed_more : (ps : List ℕ) (i : ℕ) → length ps < 16 → set (listed ps) (length ps) i ≡ listed (ps ++ (i ∷ []))
listed_more ps i room =
    let m = 15 - length ps in
    let left : 16 - length ps ≡ suc m = omega arith in
    let then : m ≡ 16 - length (ps ++ (i ∷ [])) = omega (arith, length-append ps (i ∷ [])) in
    ap (λ (n : ℕ). set (ps ++ replicate n 0) (length ps) i) left ∙ set_behind ps 0 i (replicate m 0) ∙ sym (append_assoc ps (i ∷ []) (replicate m 0))
    ∙ ap (λ (n : ℕ). (ps ++ (i ∷ [])) ++ replicate n 0) then

listing_more : (ps : List ℕ) (f : Flips) (i : ℕ) → Listing ps f → Listing (ps ++ (i ∷ [])) (one_more f i)
listing_more ps f i h = record {
  count = sym (length-append ps (i ∷ []) ∙ omega (arith, h.count));
  list = λ room. rw (lt-ltb f.count 16 (omega arith)) (rw (h.list (omega arith), h.count) (listed_more ps i (omega (arith, h.count))));
}

listing_all : (ps l : List ℕ) (f : Flips) → Listing ps f → Listing (ps ++ l) (all_more f l)
unfolding all_more
listing_all ps [] f h = rw append-nil h
listing_all ps (i ∷ l) f h = rw append_assoc at (listing_all (ps ++ (i ∷ [])) l (one_more f i) (listing_more ps f i h))

pub listing_of : (l : List ℕ) → Listing l (all_more (record { count = 0; places = listed [] }) l)
listing_of l = listing_all [] l (record { count = 0; places = listed [] }) (record { count = refl; list = λ _. refl })

count_more : (f : Flips) (l : List ℕ) → (all_more f l).count ≡ f.count + length l
unfolding all_more
count_more f [] = sym (add-zero f.count)
count_more f (i ∷ l) = count_more (one_more f i) l ∙ omega arith

more_append : (f : Flips) (u v : List ℕ) → all_more f (u ++ v) ≡ all_more (all_more f u) v
unfolding all_more
more_append f [] v = refl
more_append f (i ∷ u) v = more_append (one_more f i) u v

-- ---- the 1s of a machine word, the highest first

pub row_few : (from x : ℕ) → length (ones_from from (digits 64 x)) ≤ 64
row_few from x = omega (arith, ones_le from (digits 64 x), length_digits 64 x)

module _ (f : Flips) (from : ℕ) where
  pub row_done : all_more f (ones_from from (digits 64 0)) ≡ f
  unfolding all_more
  row_done = ap (all_more f) (ones_none from)

  -- the highest now, and those that are left without it
  pub row_next : (x : ℕ) → 0 < x → x < 2 ^ 64
      → all_more (one_more f (from + count_leading_zeros 64 x)) (ones_from from (digits 64 (bit_xor x (0x8000000000000000 / 2 ^ count_leading_zeros 64 x))))
      ≡ all_more f (ones_from from (digits 64 x))
  unfolding all_more
  row_next x some fits = sym (ap (all_more f) (ones_first x some fits from))

  pub row_count : (x : ℕ) → (all_more f (ones_from from (digits 64 x))).count ≤ f.count + 64
  row_count x = omega (arith, count_more f (ones_from from (digits 64 x)), row_few from x)

-- ---- of eight, one after the other

-- those of the machine words from the w-th on are still to be listed
abbrev pub Rest : List ℕ → ℕ → Flips → Type 0
Rest marks w f = Listing (ones_of (bits512 marks)) (all_more f (ones_from (64 * w) (bits_from (8 - w) w marks)))

pub rest_all : (marks : List ℕ) → Rest marks 0 (record { count = 0; places = listed [] })
unfolding bits512
rest_all marks = listing_of (ones_of (bits512 marks))

pub rest_next : (marks : List ℕ) (w : ℕ) (f : Flips) → w < 8 → Rest marks w f → Rest marks (w + 1) (all_more f (ones_from (64 * w) (digits 64 (get_or marks w 0))))
unfolding bits_from
rest_next marks w f h r =
    let x = digits 64 (get_or marks w 0) in
    let more : 8 - w ≡ suc (8 - (w + 1)) = omega arith in
    let one : suc w ≡ w + 1 = omega arith in
    let on : 64 * w + length x ≡ 64 * (w + 1) = omega (arith, length_digits 64 (get_or marks w 0)) in
    let split : ones_from (64 * w) (bits_from (8 - w) w marks) ≡ ones_from (64 * w) x ++ ones_from (64 * (w + 1)) (bits_from (8 - (w + 1)) (w + 1) marks)
    = ap (λ (n : ℕ). ones_from (64 * w) (bits_from n w marks)) more
    ∙ ap (λ (n : ℕ). ones_from (64 * w) (x ++ bits_from (8 - (w + 1)) n marks)) one
    ∙ ones_append (64 * w) x (bits_from (8 - (w + 1)) (w + 1) marks)
    ∙ ap (λ (n : ℕ). ones_from (64 * w) x ++ ones_from n (bits_from (8 - (w + 1)) (w + 1) marks)) on in
    rw (split, more_append) at r

pub rest_none : (marks : List ℕ) (w : ℕ) (f : Flips) → 8 ≤ w → Rest marks w f → Listing (ones_of (bits512 marks)) f
unfolding bits_from ones_from all_more
rest_none marks w f h r = let none : 8 - w ≡ 0 = omega arith in rw none at r
