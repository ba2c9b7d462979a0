-- Which points are of their constellation, by the sizes of their levels alone, and that such a point's label is what the table of quadrants is read as.
-- The sizes are tried by computation: at every pair of levels up to the largest of their constellation.
-- Assumes nothing.
use mathlib.Core.Path.{◌≡◌, refl, sym, ap, subst, ◌∙◌}
use mathlib.Core.Bool.{Bool, true, false, cond, not, ◌&&◌}
use Prim.Native.Nat.{ℕ, suc, ◌%◌, ◌≤◌}
use native.Mathlib.Decide.{dec_le}
use native.Mathlib.Omega.{arith}
use lib.Dec.{T, eqb, eqb→eq}
use lib.IntN.{ℤ, pos, negsuc, nat_abs}
use borrow.Author.Tests.{eq-eqb, le-leb, not-true}
use Rattle.ground.specs.First.{up_from}
use Rattle.std.specs.Prelude.{Some, None}
use Rattle.points.specs.declared.Point.{Point}
use Rattle.points.specs.declared.Point.TheVariants.{Nothing}
use Rattle.points.specs.Constellations.{tables, columns, points, point_of, label_of, is_at, is_stray}
use Rattle.points.specs.Lent.{parts_of, quarter_of, point_in, guess_in, label_in, read_in, confirmed, quarter_cells, word, words, our_cells, place_from, starts_from, quarter_lows, our_quadrants}
use Rattle.points.specs.Sizes.{most_of, odd_of, Sized}
use Rattle.ground.proofs.Tests.{both, all, all_at, is_true}
use Rattle.points.proofs.Lending.{too_few, too_many, label_ours}

-- ---- the label of a point that is not stray

unlike : {A : Type 0} → true ≡ false → A
unlike e = let z : ◌≡◌ {A = Bool} true false = e in absurd (subst T z tt)

-- a guess that is not stray stands
stands : (here : Bool) (g : ℕ) → is_stray (cond here (Some g) None) ≡ false → cond here (Some g) None ≡ Some g
stands true g e = refl
stands false g e = unlike e

module _ (n : ℕ) (i q : ℤ) (kept : is_stray (label_of n i q) ≡ false) where
  abbrev guessed : ℕ
  guessed = guess_in our_quadrants n (parts_of i) (parts_of q)

  kept_in : is_stray (confirmed (point_in our_cells n guessed) guessed i q) ≡ false
  unfolding label_in
  kept_in = ap is_stray (label_ours n i q) ∙ kept

  not_nothing : point_in our_cells n guessed ≡ Nothing → ⊥
  not_nothing e = unlike (sym (ap (λ (p : Point). is_stray (confirmed p guessed i q)) e) ∙ kept_in)

  -- there is a constellation of n bits
  known : (2 ≤ n) × (n ≤ 10)
  known = (low (dec_le 2 n), high (dec_le n 10))
    where
      low : Dec (2 ≤ n) → 2 ≤ n
      low (yes h) = h
      low (no h) = absurd (not_nothing (too_few our_cells n guessed (omega arith)))

      high : Dec (n ≤ 10) → n ≤ 10
      high (yes h) = h
      high (no h) = absurd (not_nothing (too_many our_cells n guessed (omega arith)))

  reads_guess : read_in our_quadrants n i q ≡ guessed
  unfolding read_in
  reads_guess = rw (le-leb 2 n known.0, le-leb n 10 known.1)

pub read_label : (n : ℕ) (i q : ℤ) → is_stray (label_of n i q) ≡ false → label_of n i q ≡ Some (read_in our_quadrants n i q)
unfolding label_in
read_label n i q e =
    let g = guessed n i q e in
    sym (label_ours n i q) ∙ stands (is_at (point_in our_cells n g) i q) g (kept_in n i q e) ∙ sym (ap Some (reads_guess n i q e))

-- ---- the sizes of a point's levels

-- the test passes at each level of a size up to m
abbrev levels : ℕ → (ℤ → Bool) → Bool
levels m p = all (suc m) (λ e. p (pos e)) && all m (λ e. p (negsuc e))

levels_at : (m : ℕ) (p : ℤ → Bool) → T (levels m p) → (x : ℤ) → nat_abs x ≤ m → T (p x)
levels_at m p t x h = by x h
  where
    parts : T (all (suc m) (λ e. p (pos e))) × T (all m (λ e. p (negsuc e)))
    parts = both (all (suc m) (λ e. p (pos e))) (all m (λ e. p (negsuc e))) t

    by : (x : ℤ) → nat_abs x ≤ m → T (p x)
    by (pos e) h = all_at (suc m) (λ e. p (pos e)) parts.0 e (omega arith)
    by (negsuc e) h = all_at m (λ e. p (negsuc e)) parts.1 e h

-- n is odd, and both sizes are divisible by 3: no point stands there
abbrev hole : ℕ → ℕ → ℕ → Bool
hole n e f = eqb (n % 2) 1 && (eqb (e % 3) 0 && eqb (f % 3) 0)

-- the sizes are odd, or for 8QAM even, and at no hole
abbrev placed : ℕ → ℕ → ℕ → Bool
placed n e f = eqb (e % 2) (odd_of n) && (eqb (f % 2) (odd_of n) && not (hole n e f))

-- a point so placed is found by our tables
abbrev finds : ℕ → ℤ → ℤ → Bool
finds n i q = cond (placed n (nat_abs i) (nat_abs q)) (not (is_stray (label_in our_cells our_quadrants n i q))) true

finds_test : T (all 11 (λ n. levels (most_of n) (λ i. levels (most_of n) (finds n i))))
unfolding most_of odd_of label_in point_in point_of guess_in our_cells our_quadrants starts_from quarter_lows place_from up_from quarter_cells words word quarter_of points columns tables
finds_test = tt

-- a point of such sizes is one of its constellation
module _ (n : ℕ) (i q : ℤ) (s : Sized n i q) where
  beside_holes : hole n (nat_abs i) (nat_abs q) ≡ false
  beside_holes = by (hole n (nat_abs i) (nat_abs q)) refl
    where
      by : (there : Bool) → hole n (nat_abs i) (nat_abs q) ≡ there → there ≡ false
      by false e = refl
      by true e =
          let t = both (eqb (n % 2) 1) (eqb (nat_abs i % 3) 0 && eqb (nat_abs q % 3) 0) (subst T (sym e) tt) in
          let u = both (eqb (nat_abs i % 3) 0) (eqb (nat_abs q % 3) 0) t.1 in
          absurd (s.no_hole (eqb→eq (n % 2) 1 t.0) (eqb→eq (nat_abs i % 3) 0 u.0) (eqb→eq (nat_abs q % 3) 0 u.1))

  is_placed : placed n (nat_abs i) (nat_abs q) ≡ true
  is_placed = rw (eq-eqb (nat_abs i % 2) (odd_of n) s.odd_i, eq-eqb (nat_abs q % 2) (odd_of n) s.odd_q, beside_holes)

  pub sized_legal : is_stray (label_of n i q) ≡ false
  sized_legal =
      let m = most_of n in
      let of_n = all_at 11 (λ n. levels (most_of n) (λ i. levels (most_of n) (finds n i))) finds_test n (omega (arith, s.few)) in
      let of_i = levels_at m (λ i. levels m (finds n i)) of_n i s.low_i in
      let of_q = levels_at m (finds n i) of_i q s.low_q in
      ap is_stray (sym (label_ours n i q)) ∙ not-true (is_stray (label_in our_cells our_quadrants n i q)) (is_true _ (rw is_placed at of_q))
