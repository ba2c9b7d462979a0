-- The sub-carriers of one OFDM symbol by parts, where there are 210 levels: each half of them stands together, and zeros before it; and 256 places that are written part after part.
-- Assumes nothing.
use mathlib.Core.Path.{◌≡◌, refl, sym, ap, ap₂, ◌∙◌}
use mathlib.Core.List.{List, [], ◌∷◌, ◌++◌, append_assoc}
use Prim.Native.Nat.{ℕ, zero, suc, ◌+◌, ◌-◌, ◌≤◌, ◌<◌}
use native.Mathlib.Nat.{zero-add, suc-add, add-zero}
use native.Mathlib.Omega.{arith}
use borrow.Rule.Slice.PartMut.{mid_of, put_mid, post_of, same_len_mid, mid_len}
use lib.IntN.{ℤ, pos}
use lib.ListN.{length, take, drop, replicate, length-append, length-drop, length-replicate, get_or-replicate}
use lib.Seq.{get_or-take, get_or-drop, take_all, take_at, length-take-le, ext_get_or}
use Rattle.symbols.specs.declared.Carrier.TheVariants.{Holds, Empty}
use Rattle.symbols.specs.Grid.{carrier_at}
use Rattle.symbols.specs.Grids.{level_on, levels_from}
use Rattle.symbols.proofs.Placement.{carrier_zero, carrier_low, carrier_middle, carrier_high}
use Rattle.symbols.proofs.Placings.{length_levels, levels_at}

-- ---- the sub-carriers

levels_append : (levels : List ℤ) (k m n : ℕ) → levels_from levels k (m + n) ≡ levels_from levels k m ++ levels_from levels (k + m) n
unfolding levels_from
levels_append levels k zero n = rw (zero-add n, add-zero k)
levels_append levels k (suc m) n =
    let at : suc k + m ≡ k + suc m = omega arith in
    rw (suc-add m n) (ap (λ (w : List ℤ). level_on levels (carrier_at k) ∷ w) (levels_append levels (suc k) m n ∙ ap (λ (j : ℕ). levels_from levels (suc k) m ++ levels_from levels j n) at))

module _ (levels : List ℤ) (k n : ℕ) where
  -- those that hold n points in turn
  levels_held : (a : ℕ) → a + n ≤ length levels → ((i : ℕ) → i < n → carrier_at (k + i) ≡ Holds (suc (a + i))) → levels_from levels k n ≡ take n (drop a levels)
  levels_held a fits each =
      let part = take n (drop a levels) in
      let long : length part ≡ n = length-take-le n (drop a levels) (simp length-drop (omega arith)) in
      ext_get_or (pos 0) (levels_from levels k n) part (length_levels levels k n ∙ sym long)
      (λ i h.
      let l : i < n = omega (arith, length_levels levels k n) in
      levels_at levels k n i l ∙ ap (level_on levels) (each i l) ∙ sym (get_or-take n (drop a levels) i (pos 0) l ∙ get_or-drop a levels i (pos 0)))

  -- those that hold none
  levels_empty : ((i : ℕ) → i < n → carrier_at (k + i) ≡ Empty) → levels_from levels k n ≡ replicate n (pos 0)
  levels_empty each =
      ext_get_or (pos 0) (levels_from levels k n) (replicate n (pos 0)) (length_levels levels k n ∙ sym (length-replicate n (pos 0)))
      (λ i h.
      let l : i < n = omega (arith, length_levels levels k n) in
      levels_at levels k n i l ∙ ap (level_on levels) (each i l) ∙ sym (get_or-replicate n i (pos 0) (pos 0) l))

module _ (levels : List ℤ) (many : length levels ≡ 210) where
  first_empty : levels_from levels 0 1 ≡ replicate 1 (pos 0)
  first_empty = levels_empty levels 0 1 (λ i h. ap carrier_at (omega arith) ∙ carrier_zero)

  low_held : levels_from levels 1 105 ≡ take 105 (drop 105 levels)
  low_held = levels_held levels 1 105 105 (omega arith) (λ i h. carrier_low (1 + i) (omega arith) (omega arith) ∙ ap Holds (omega arith))

  middle_empty : levels_from levels 106 45 ≡ replicate 45 (pos 0)
  middle_empty = levels_empty levels 106 45 (λ i h. carrier_middle (106 + i) (omega arith) (omega arith))

  high_held : levels_from levels 151 105 ≡ take 105 levels
  high_held = levels_held levels 151 105 0 (omega arith) (λ i h. carrier_high (151 + i) (omega arith) (omega arith) ∙ ap Holds (omega arith))

  -- all 256
  pub levels_parts : levels_from levels 0 256 ≡ replicate 1 (pos 0) ++ take 105 (drop 105 levels) ++ replicate 45 (pos 0) ++ take 105 levels
  levels_parts =
      levels_append levels 0 151 105
      ∙ ap₂ ◌++◌ (levels_append levels 0 106 45 ∙ ap₂ ◌++◌ (levels_append levels 0 1 105 ∙ ap₂ ◌++◌ first_empty low_held) middle_empty) high_held

-- ---- the places

-- the first n of 256 places are written
pub record Front (n : ℕ) (front out : List ℤ) : Type 0 where
  pub long : length out ≡ 256
  pub there : take n out ≡ front

pub front_none : (out : List ℤ) → length out ≡ 256 → Front 0 [] out
front_none out long = record { long = long; there = refl }

module _ {front out : List ℤ} (a e : ℕ) (up : a ≤ e) (low : e ≤ 256) (part : List ℤ) where
  -- a part more
  pub front_more : (ys : List ℤ) → length ys ≡ e - a → part ≡ ys → Front a front out → Front e (front ++ ys) (put_mid a (e - a) out part)
  front_more ys long there f =
      let ends : e ≤ length out = omega (arith, f.long) in
      let mine : length (take a out ++ ys) ≡ e = length-append (take a out) ys ∙ omega (arith, length-take-le a out (omega arith)) in
      record {
        long = same_len_mid a (e - a) out part (ap length there ∙ long ∙ sym (mid_len a e out ends)) ∙ f.long;
        there = rw (there, ← append_assoc (take a out) ys (post_of a (e - a) out))
            (take_at (take a out ++ ys) (post_of a (e - a) out) e mine ∙ ap (λ (w : List ℤ). w ++ ys) f.there);
      }

  -- a part of zeros more
  pub front_zeros : part ≡ replicate (length (mid_of a (e - a) out)) (pos 0) → Front a front out → Front e (front ++ replicate (e - a) (pos 0)) (put_mid a (e - a) out part)
  front_zeros there f =
      let ends : e ≤ length out = omega (arith, f.long) in
      front_more (replicate (e - a) (pos 0)) (length-replicate (e - a) (pos 0)) (there ∙ ap (λ (n : ℕ). replicate n (pos 0)) (mid_len a e out ends)) f

pub front_all : {front out : List ℤ} → Front 256 front out → out ≡ front
front_all {front} {out} f = sym (take_all 256 out (omega (arith, f.long))) ∙ f.there
