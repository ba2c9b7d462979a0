-- The quick look overlooks no fault: OFDM symbols that pass it have neither an occupied sub-carrier nor a stray point.
-- Assumes nothing.
use mathlib.Core.Path.{◌≡◌, refl, sym, ap, subst, ◌∙◌}
use mathlib.Core.Bool.{Bool, false}
use mathlib.Core.List.{List}
use Prim.Native.Nat.{ℕ, suc, ◌+◌, ◌-◌, ◌*◌, ◌/◌, ◌%◌, ◌≤◌, ◌<◌}
use native.Mathlib.Decide.{dec_le}
use native.Mathlib.Nat.{zero-add}
use native.Mathlib.Omega.{arith}
use lib.IntN.{ℤ, pos, nat_abs}
use lib.ListN.{length, get_or, take, drop, length-drop}
use lib.Seq.{get_or-take, get_or-drop, length-take-le}
use Rattle.ground.specs.First.{up_from}
use Rattle.ground.proofs.Firsts.{first_none, length_up, up_at}
use Rattle.points.specs.Constellations.{label_of, is_stray}
use Rattle.points.specs.Sizes.{Sized}
use Rattle.points.proofs.Legal.{sized_legal}
use Rattle.symbols.specs.declared.Carrier.{Carrier}
use Rattle.symbols.specs.declared.Carrier.TheVariants.{Holds, Empty}
use Rattle.symbols.specs.Grid.{carrier_at, carrier_of}
use Rattle.symbols.specs.Grids.{index_of, occupied, occupied_at, first_occupied}
use Rattle.symbols.specs.Faults.{stray_by, first_stray}
use Rattle.symbols.specs.Schemes.{Scheme}
use Rattle.symbols.specs.Quick.{Passed, PassedBy, Zeros, EmptyFrom, Seen, Legal}
use Rattle.symbols.proofs.Placement.{carrier_low, carrier_high, carrier_of_low, carrier_of_high}
use Rattle.symbols.proofs.Indices.{carrier_of-lt}
use Rattle.symbols.proofs.Readings.{none_occupied}
use Rattle.symbols.proofs.Schemes.{entry_in}

-- ---- parts of lists, as the code takes them

pub part_at : {A : Type 0} (xs : List A) (from n k : ℕ) (d : A) → k < n → get_or (take n (drop from xs)) k d ≡ get_or xs (from + k) d
part_at xs from n k d h = get_or-take n (drop from xs) k d h ∙ get_or-drop from xs k d

pub part_zeros : (xs : List ℤ) (from end : ℕ) → end ≤ length xs → Zeros (take (end - from) (drop from xs)) → (k : ℕ) → from ≤ k → k < end → get_or xs k (pos 0) ≡ pos 0
part_zeros xs from end l zeros k a b =
    let e : from + (k - from) ≡ k = omega arith in
    let long : length (take (end - from) (drop from xs)) ≡ end - from = length-take-le (end - from) (drop from xs) (rw length-drop (omega arith)) in
    ap (λ (j : ℕ). get_or xs j (pos 0)) (sym e) ∙ sym (part_at xs from (end - from) (k - from) (pos 0) (omega arith)) ∙ zeros (k - from) (omega arith)

-- 105 points on the sub-carriers from k on
pub part_held : (P : ℕ → ℤ → ℤ → Type 0) (is qs : List ℤ) (from k : ℕ)
    → ((s : ℕ) → s < 105 → P (from + s) (get_or (take 105 (drop k is)) s (pos 0)) (get_or (take 105 (drop k qs)) s (pos 0)))
    → (s : ℕ) → s < 105 → P (from + s) (get_or is (k + s) (pos 0)) (get_or qs (k + s) (pos 0))
part_held P is qs from k all s h = rw (part_at is k 105 s (pos 0) h, part_at qs k 105 s (pos 0) h) at (all s h)

-- ---- one OFDM symbol

-- the sub-carriers from 1 to 105 and from 151 to 255 hold points
unlike : {s : ℕ} {A : Type 0} → Holds s ≡ Empty → A
unlike e = absurd (let z : ◌≡◌ {A = ℕ} 0 1 = cc in omega arith)

module _ (is qs : List ℤ) (first : EmptyFrom 0 1 is qs) (middle : EmptyFrom 106 151 is qs) where
  all_empty : (k : ℕ) → k < 256 → carrier_at k ≡ Empty → (get_or is k (pos 0) ≡ pos 0) × (get_or qs k (pos 0) ≡ pos 0)
  all_empty k h e = by (dec_le 1 k) (dec_le 106 k) (dec_le 151 k)
    where
      by : Dec (1 ≤ k) → Dec (106 ≤ k) → Dec (151 ≤ k) → (get_or is k (pos 0) ≡ pos 0) × (get_or qs k (pos 0) ≡ pos 0)
      by (no a) b c = first k (omega arith) (omega arith)
      by (yes a) (no b) c = unlike (sym (carrier_low k a (omega arith)) ∙ e)
      by (yes a) (yes b) (no c) = middle k b (omega arith)
      by (yes a) (yes b) (yes c) = unlike (sym (carrier_high k c (omega arith)) ∙ e)

module _ (P : ℕ → ℤ → ℤ → Type 0) (is qs : List ℤ) where
  -- P holds of the levels at index k, by row s
  abbrev pub HeldAt : ℕ → ℕ → Type 0
  HeldAt s k = P s (get_or is k (pos 0)) (get_or qs k (pos 0))

  -- of 105 points on the sub-carriers from k on, by the rows from `row` on
  abbrev HeldFrom : ℕ → ℕ → Type 0
  HeldFrom row k = (s : ℕ) → s < 105 → HeldAt (row + s) (k + s)

  module _ (high : HeldFrom 0 151) (low : HeldFrom 105 1) where
    all_held : (s : ℕ) → s < 210 → HeldAt s (carrier_of (suc s))
    all_held s h = by (dec_le 105 s)
      where
        by : Dec (105 ≤ s) → HeldAt s (carrier_of (suc s))
        by (no l) =
            let row : 0 + s ≡ s = omega arith in
            let k : 151 + s ≡ carrier_of (suc s) = omega (arith, carrier_of_low (suc s) (omega arith) (omega arith)) in
            subst (λ (t : ℕ). HeldAt s t) k (subst (λ (t : ℕ). HeldAt t (151 + s)) row (high s (omega arith)))
        by (yes l) =
            let row : 105 + (s - 105) ≡ s = omega arith in
            let k : 1 + (s - 105) ≡ carrier_of (suc s) = omega (arith, carrier_of_high (suc s) (omega arith) (omega arith)) in
            subst (λ (t : ℕ). HeldAt s t) k (subst (λ (t : ℕ). HeldAt t (1 + (s - 105))) row (low (s - 105) (omega arith)))

    -- the two halves hold its points, and the rest is empty
    pub all_seen : EmptyFrom 0 1 is qs → EmptyFrom 106 151 is qs → Seen P is qs
    all_seen first middle = record { empty = all_empty is qs first middle; held = all_held }

-- ---- OFDM symbols

-- nothing is wrong with the first k OFDM symbols: P holds of the levels of each of their points
pub record Clean (P : ℕ → ℤ → ℤ → Type 0) (is qs : List ℤ) (k : ℕ) : Type 0 where
  pub free : (x : ℕ) → x < 256 * k → occupied_at is qs x ≡ false
  pub held : (place : ℕ) → place < 210 * k → HeldAt P is qs (place % 210) (index_of place)

pub clean_none : (P : ℕ → ℤ → ℤ → Type 0) (is qs : List ℤ) → Clean P is qs 0
clean_none P is qs = record { free = λ x h. absurd (omega arith); held = λ place h. absurd (omega arith) }

-- one OFDM symbol more that passes
module _ (P : ℕ → ℤ → ℤ → Type 0) (is qs : List ℤ) (k : ℕ)
    (look : Seen P (take (256 * k + 256 - 256 * k) (drop (256 * k) is)) (take (256 * k + 256 - 256 * k) (drop (256 * k) qs))) where
  -- a level of it, in the whole list
  level_in : (xs : List ℤ) (j : ℕ) → j < 256 → get_or (take (256 * k + 256 - 256 * k) (drop (256 * k) xs)) j (pos 0) ≡ get_or xs (256 * k + j) (pos 0)
  level_in xs j h = part_at xs (256 * k) (256 * k + 256 - 256 * k) j (pos 0) (omega arith)

  free_here : (j : ℕ) → j < 256 → occupied_at is qs (256 * k + j) ≡ false
  free_here j h =
      let r : (256 * k + j) % 256 ≡ j = omega arith in
      rw r (by (carrier_at j) refl)
    where
      by : (c : Carrier) → carrier_at j ≡ c → occupied c (get_or is (256 * k + j) (pos 0)) (get_or qs (256 * k + j) (pos 0)) ≡ false
      by (Holds s) e = refl
      by Empty e =
          let z = look.empty j h e in
          rw (sym (level_in is j h) ∙ z.0, sym (level_in qs j h) ∙ z.1)

  abbrev HeldIn : ℕ → Type 0
  HeldIn place = HeldAt P is qs (place % 210) (index_of place)

  held_here : (s : ℕ) → s < 210 → HeldIn (210 * k + s)
  unfolding index_of
  held_here s h =
      let r : (210 * k + s) % 210 ≡ s = omega arith in
      let d : (210 * k + s) / 210 ≡ k = omega arith in
      let c = carrier_of (suc s) in
      let i = level_in is c (carrier_of-lt (suc s)) in
      let q = level_in qs c (carrier_of-lt (suc s)) in
      rw (r, d, sym i, sym q) (look.held s h)

  pub clean_more : Clean P is qs k → Clean P is qs (k + 1)
  clean_more c = record { free = λ x h. free_at x h (dec_le (256 * k) x); held = λ place h. held_at place h (dec_le (210 * k) place) }
    where
      free_at : (x : ℕ) → x < 256 * (k + 1) → Dec (256 * k ≤ x) → occupied_at is qs x ≡ false
      free_at x h (no l) = c.free x (omega arith)
      free_at x h (yes l) =
          let e : 256 * k + (x - 256 * k) ≡ x = omega arith in
          subst (λ (y : ℕ). occupied_at is qs y ≡ false) e (free_here (x - 256 * k) (omega arith))

      held_at : (place : ℕ) → place < 210 * (k + 1) → Dec (210 * k ≤ place) → HeldIn place
      held_at place h (no l) = c.held place (omega arith)
      held_at place h (yes l) = let e : 210 * k + (place - 210 * k) ≡ place = omega arith in subst HeldIn e (held_here (place - 210 * k) (omega arith))

-- no sub-carrier of all m is occupied
clean_free : (P : ℕ → ℤ → ℤ → Type 0) (m : ℕ) (is qs : List ℤ) → Clean P is qs m → first_occupied is qs 0 (256 * m) ≡ 256 * m
clean_free P m is qs c = none_occupied is qs 0 (256 * m) (λ j a h. c.free j (omega arith))

-- all m have no fault
pub all_legal : (strays : ℕ → ℤ → ℤ → Bool) (m : ℕ) (is qs : List ℤ) → Clean (Legal strays) is qs m
    → (first_occupied is qs 0 (256 * m) ≡ 256 * m) × (first_stray strays m is qs ≡ 210 * m)
all_legal strays m is qs c =
    let long = length_up 0 (210 * m) in (
      clean_free (Legal strays) m is qs c,
      first_none (stray_by strays is qs) 0 (up_from 0 (210 * m)) (λ place h.
          let l : place < 210 * m = omega (arith, long) in
          ap (stray_by strays is qs) (up_at 0 (210 * m) place l ∙ zero-add place) ∙ c.held place l) ∙ long,
    )

-- ---- by a scheme

-- what passes as a point of n bits is one
sized_passed : (n : ℕ) (i q : ℤ) → n ≤ 10 → Passed n (nat_abs i) (nat_abs q) → Sized n i q
sized_passed n i q few p = record {
  few = few;
  low_i = p.low_e;
  low_q = p.low_f;
  odd_i = p.odd_e;
  odd_q = p.odd_f;
  no_hole = λ one e f. omega (arith, p.no_hole e f);
}

-- the point of an entry that passes is one of its constellation
pub passed_legal : {scheme : List ℕ} → Scheme scheme → (s : ℕ) (i q : ℤ) → s < 210 → PassedBy scheme s i q → is_stray (label_of (get_or scheme s 0) i q) ≡ false
passed_legal {scheme} good s i q h p = sized_legal (get_or scheme s 0) i q (sized_passed _ i q (entry_in good s h).1 p)
