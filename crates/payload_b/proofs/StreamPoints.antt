-- The points of one OFDM symbol more: its bits behind those before, and the checks 7 and 8, which pass of all where they pass of each.
-- Assumes nothing.
use mathlib.Core.Path.{◌≡◌, refl, sym, ap, ap₂, ◌∙◌}
use mathlib.Core.Bool.{Bool, true, false, cond, true≢false}
use mathlib.Core.List.{List, [], ◌∷◌, ◌++◌, append-nil, append_assoc, zip_with}
use Prim.Native.Nat.{ℕ, zero, suc, ◌+◌, ◌*◌, ◌%◌, ◌≤◌, ◌<◌}
use native.Mathlib.Numerals.{add-one}
use native.Mathlib.Decide.{dec_le}
use native.Mathlib.Omega.{arith}
use borrow.Author.Tests.{ltb-false}
use lib.Dec.{ltb}
use lib.IntN.{ℤ, pos}
use lib.ListN.{length, drop}
use lib.Seq.{get_or-drop}
use Rattle.ground.specs.First.{first_in, up_from}
use Rattle.ground.proofs.Firsts.{first, first_within, first_behind, length_up}
use Rattle.answers.specs.Checks.{Checked, fails, passes}
use Rattle.std.specs.Prelude.{Option, None}
use Rattle.points.specs.declared.Point.{Point}
use Rattle.points.specs.Constellations.{is_stray}
use Rattle.symbols.specs.Grids.{points_from, received, index_of, occupied_at, first_occupied}
use Rattle.symbols.specs.Schemes.{Scheme, point_label, repeated, labelled, stray_in}
use Rattle.symbols.proofs.Readings.{received-one, received-add, points_take, occupied_take}
use Rattle.symbols.proofs.Schemes.{repeated_more}
use Rattle.symbols.proofs.Mapping.{as_many}
use Rattle.symbols.proofs.Labelled.{labelled-append, labels_long}
use Rattle.payload_b.specs.PromiseB.{points_checked_b}
use Rattle.payload_b.specs.StreamB.{all_pass}
use Rattle.payload_b.specs.StreamedB.{symbol_at, bits_seen}
use Rattle.payload_b.proofs.VerdictsB.{legal}

-- ---- two lists: a test finds nothing in both where it finds nothing in either

module _ {A : Type 0} (test : A → Bool) (d : A) (xs ys : List A) where
  both_clear : length xs ≤ first_in test xs → length ys ≤ first_in test ys → length xs + length ys ≤ first_in test (xs ++ ys)
  both_clear p q = omega (arith, first_behind test xs ys (omega (arith, (first test d xs).most)))

  each_clear : length xs + length ys ≤ first_in test (xs ++ ys) → (length xs ≤ first_in test xs) × (length ys ≤ first_in test ys)
  each_clear all = by (dec_le (length xs) (first_in test xs))
    where
      by : Dec (length xs ≤ first_in test xs) → (length xs ≤ first_in test xs) × (length ys ≤ first_in test ys)
      by (yes h) = (h, omega (arith, first_behind test xs ys (omega (arith, (first test d xs).most))))
      by (no h) = absurd (omega (arith, first_within test xs ys (omega arith)))

up_split : (k m n : ℕ) → up_from k (m + n) ≡ up_from k m ++ up_from (k + m) n
unfolding up_from
up_split k zero n =
    let none : 0 + n ≡ n = omega arith in
    let at : k + 0 ≡ k = omega arith in
    rw (none, at) refl
up_split k (suc m) n =
    let on : suc m + n ≡ suc (m + n) = omega arith in
    let at : suc k + m ≡ k + suc m = omega arith in
    rw on (ap (λ (ks : List ℕ). k ∷ ks) (up_split (suc k) m n ∙ ap (λ (i : ℕ). up_from (suc k) m ++ up_from i n) at))

zip_append : {A B C : Type 0} (f : A → B → C) (u v : List A) (x y : List B) → length u ≡ length x → zip_with f (u ++ v) (x ++ y) ≡ zip_with f u x ++ zip_with f v y
unfolding zip_with
zip_append f [] v [] y e = refl
zip_append f [] v (b ∷ x) y e = absurd (omega arith)
zip_append f (a ∷ u) v [] y e = absurd (omega arith)
zip_append f (a ∷ u) v (b ∷ x) y e = ap (λ (cs : List _). f a b ∷ cs) (zip_append f u v x y (omega arith))

-- ---- one OFDM symbol more

module _ {scheme : List ℕ} (good : Scheme scheme) (is qs : List ℤ) where
  -- the points of one more
  points_more : (k : ℕ) → received (suc k) is qs ≡ received k is qs ++ points_from (symbol_at k is) (symbol_at k qs) 1 210
  points_more k =
      ap (λ (n : ℕ). received n is qs) (sym (add-one k)) ∙ received-add k 1 is qs
      ∙ ap (λ (ps : List Point). received k is qs ++ ps)
      (received-one (drop (256 * k) is) (drop (256 * k) qs) ∙ sym (points_take (drop (256 * k) is) (drop (256 * k) qs)))

  -- and its bits
  pub seen_more : (k : ℕ) → bits_seen scheme is qs (suc k) ≡ bits_seen scheme is qs k ++ labelled scheme (points_from (symbol_at k is) (symbol_at k qs) 1 210)
  seen_more k =
      ap₂ labelled (repeated_more scheme k) (points_more k)
      ∙ labelled-append (repeated k scheme) scheme (received k is qs) _ (as_many scheme good.long k is qs)

  -- so those of some stand before those of more
  pub seen_front : (j i : ℕ) → (rest : List ℕ) × (bits_seen scheme is qs (j + i) ≡ bits_seen scheme is qs j ++ rest)
  seen_front j zero = ([], ap (bits_seen scheme is qs) none ∙ sym (append-nil (bits_seen scheme is qs j)))
    where
      none : j + 0 ≡ j
      none = omega arith
  seen_front j (suc i) =
      let on : j + suc i ≡ suc (j + i) = omega arith in
      let before = seen_front j i in
      let one = labelled scheme (points_from (symbol_at (j + i) is) (symbol_at (j + i) qs) 1 210) in (
        before.0 ++ one,
        ap (bits_seen scheme is qs) on ∙ seen_more (j + i) ∙ ap (λ (w : List ℕ). w ++ one) before.1 ∙ append_assoc (bits_seen scheme is qs j) before.0 one,
      )

  -- ---- check 7

  -- from the first index of an OFDM symbol on, and in that symbol itself
  occupied_shift : (k i n : ℕ) → first_occupied is qs (256 * k + i) n ≡ first_occupied (drop (256 * k) is) (drop (256 * k) qs) i n
  unfolding first_in up_from
  occupied_shift k i zero = refl
  occupied_shift k i (suc n) =
      let r : (256 * k + i) % 256 ≡ i % 256 = omega arith in
      let on : suc (256 * k + i) ≡ 256 * k + suc i = omega arith in
      rw (get_or-drop (256 * k) is i (pos 0), get_or-drop (256 * k) qs i (pos 0), r, on, occupied_shift k (suc i) n)

  occupied_one : (k : ℕ) → first_occupied is qs (0 + 256 * k) 256 ≡ first_occupied (symbol_at k is) (symbol_at k qs) 0 (256 * 1)
  occupied_one k =
      let at : 0 + 256 * k ≡ 256 * k + 0 = omega arith in
      ap (λ (i : ℕ). first_occupied is qs i 256) at ∙ occupied_shift k 0 256
      ∙ sym (occupied_take 256 (drop (256 * k) is) (drop (256 * k) qs) 0 256 (omega arith))

  abbrev Free : ℕ → Type 0
  Free k = 256 * k ≤ first_occupied is qs 0 (256 * k)

  abbrev FreeOne : ℕ → Type 0
  FreeOne k = 256 * 1 ≤ first_occupied (symbol_at k is) (symbol_at k qs) 0 (256 * 1)

  free_more : (k : ℕ) → Free k → FreeOne k → Free (suc k)
  free_more k p q =
      let size : 256 * suc k ≡ 256 * k + 256 = omega arith in
      rw (size, up_split 0 (256 * k) 256)
      (omega (
        arith,
        both_clear (occupied_at is qs) 0 (up_from 0 (256 * k)) (up_from (0 + 256 * k) 256) (rw length_up p) (rw length_up (rw (occupied_one k) q)),
        length_up 0 (256 * k),
        length_up (0 + 256 * k) 256,
      ))

  free_each : (k : ℕ) → Free (suc k) → Free k × FreeOne k
  free_each k p =
      let size : 256 * suc k ≡ 256 * k + 256 = omega arith in
      let long = length_up 0 (256 * k) in
      let one = length_up (0 + 256 * k) 256 in
      let all : 256 * k + 256 ≤ first_in (occupied_at is qs) (up_from 0 (256 * k) ++ up_from (0 + 256 * k) 256) = rw (size, up_split 0 (256 * k) 256) at p in
      let each = each_clear (occupied_at is qs) 0 (up_from 0 (256 * k)) (up_from (0 + 256 * k) 256) (omega arith) in
      (omega (arith, each), omega (arith, each, occupied_one k))

  -- ---- check 8

  -- the labels of k OFDM symbols, and those of one
  abbrev labels : ℕ → List (Option ℕ)
  labels k = zip_with point_label (repeated k scheme) (received k is qs)

  abbrev labels_one : ℕ → List (Option ℕ)
  labels_one k = zip_with point_label (repeated 1 scheme) (received 1 (symbol_at k is) (symbol_at k qs))

  labels_more : (k : ℕ) → labels (suc k) ≡ labels k ++ labels_one k
  unfolding repeated
  labels_more k =
      let one : repeated 1 scheme ≡ scheme = append-nil scheme in
      ap₂ (zip_with point_label) (repeated_more scheme k) (points_more k)
      ∙ zip_append point_label (repeated k scheme) scheme (received k is qs) _ (sym (as_many scheme good.long k is qs))
      ∙ ap₂ (λ (ns : List ℕ) (ps : List Point). labels k ++ zip_with point_label ns ps) (sym one) (sym (received-one (symbol_at k is) (symbol_at k qs)))

  abbrev Clean : ℕ → Type 0
  Clean k = 210 * k ≤ stray_in (repeated k scheme) (received k is qs)

  abbrev CleanOne : ℕ → Type 0
  CleanOne k = 210 * 1 ≤ stray_in (repeated 1 scheme) (received 1 (symbol_at k is) (symbol_at k qs))

  clean_more : (k : ℕ) → Clean k → CleanOne k → Clean (suc k)
  clean_more k p q =
      let long = labels_long good k is qs in
      let one = labels_long good 1 (symbol_at k is) (symbol_at k qs) in
      let both = both_clear is_stray None (labels k) (labels_one k) (omega arith) (omega arith) in
      rw (labels_more k) (omega arith)

  clean_each : (k : ℕ) → Clean (suc k) → Clean k × CleanOne k
  clean_each k p =
      let long = labels_long good k is qs in
      let one = labels_long good 1 (symbol_at k is) (symbol_at k qs) in
      let all : 210 * suc k ≤ first_in is_stray (labels k ++ labels_one k) = rw (labels_more k) at p in
      let each = each_clear is_stray None (labels k) (labels_one k) (omega arith) in
      (omega (arith, each), omega (arith, each))

-- ---- both checks

pub not_passed : {number place : ℕ} → ◌≡◌ {A = Checked Unit} (fails number place) (passes tt) → ⊥
not_passed e = true≢false (sym (ap all_pass e))

-- what they say where they pass
passed : (m : ℕ) (scheme : List ℕ) (is qs : List ℤ) → points_checked_b m scheme is qs ≡ passes tt
    → (256 * m ≤ first_occupied is qs 0 (256 * m)) × (210 * m ≤ stray_in (repeated m scheme) (received m is qs))
passed m scheme is qs e =
    let o = first_occupied is qs 0 (256 * m) in
    let p = stray_in (repeated m scheme) (received m is qs) in
    let two = by (ltb o (256 * m)) (ltb p (210 * m)) o (index_of p) e in
    (ltb-false o (256 * m) two.0, ltb-false p (210 * m) two.1)
  where
    by : (a b : Bool) (i j : ℕ) → ◌≡◌ {A = Checked Unit} (cond a (fails 7 i) (cond b (fails 8 j) (passes tt))) (passes tt) → (a ≡ false) × (b ≡ false)
    by true b i j e = absurd (not_passed e)
    by false true i j e = absurd (not_passed e)
    by false false i j e = (refl, refl)

module _ {scheme : List ℕ} (good : Scheme scheme) (is qs : List ℤ) where
  -- they pass of one OFDM symbol more
  pub clear_more : (k : ℕ) → points_checked_b k scheme is qs ≡ passes tt → points_checked_b 1 scheme (symbol_at k is) (symbol_at k qs) ≡ passes tt
      → points_checked_b (suc k) scheme is qs ≡ passes tt
  clear_more k p q =
      let all = passed k scheme is qs p in
      let one = passed 1 scheme (symbol_at k is) (symbol_at k qs) q in
      legal (λ c. c ≡ passes tt) (suc k) scheme is qs (free_more good is qs k all.0 one.0) (clean_more good is qs k all.1 one.1) refl

  -- and where they do, of it and of those before
  pub clear_each : (k : ℕ) → points_checked_b (suc k) scheme is qs ≡ passes tt
      → (points_checked_b k scheme is qs ≡ passes tt) × (points_checked_b 1 scheme (symbol_at k is) (symbol_at k qs) ≡ passes tt)
  clear_each k p =
      let all = passed (suc k) scheme is qs p in
      let free = free_each good is qs k all.0 in
      let clean = clean_each good is qs k all.1 in (
        legal (λ c. c ≡ passes tt) k scheme is qs free.0 clean.0 refl,
        legal (λ c. c ≡ passes tt) 1 scheme (symbol_at k is) (symbol_at k qs) free.1 clean.1 refl,
      )

  -- so of each of m
  pub clear_at : (m j : ℕ) → j < m → points_checked_b m scheme is qs ≡ passes tt → points_checked_b 1 scheme (symbol_at j is) (symbol_at j qs) ≡ passes tt
  clear_at zero j l p = elim l [ ]
  clear_at (suc m) j l p = by (dec_le m j) (clear_at m j) (clear_each m p)
    where
      by : Dec (m ≤ j) → (j < m → points_checked_b m scheme is qs ≡ passes tt → points_checked_b 1 scheme (symbol_at j is) (symbol_at j qs) ≡ passes tt)
          → (points_checked_b m scheme is qs ≡ passes tt) × (points_checked_b 1 scheme (symbol_at m is) (symbol_at m qs) ≡ passes tt)
          → points_checked_b 1 scheme (symbol_at j is) (symbol_at j qs) ≡ passes tt
      by (yes h) before each = let e : j ≡ m = omega arith in rw e each.1
      by (no h) before each = before (omega arith) each.0
