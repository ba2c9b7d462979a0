-- Lists of coefficients moved up by two places: entry by entry, and as series. The lists of 1 and x.
-- Assumes nothing.
use mathlib.Core.Path.{◌≡◌, refl, sym, ap, ◌∙◌, fun_ext}
use mathlib.Core.List.{List, ◌∷◌}
use Prim.Native.Nat.{ℕ, zero, suc, ◌+◌, ◌-◌, ◌≤◌, ◌<◌}
use native.Mathlib.Decide.{dec_lt}
use native.Mathlib.Numerals.{add-one}
use native.Mathlib.Omega.{arith}
use lib.ListN.{length, get_or, take, set, replicate, length-take, get_or-eq_default}
use lib.Seq.{get_or-take, take-suc, take-suc-set}
use Rattle.algebra.proofs.Series.{shift, shift_zero, shift_suc, unit, unit-zero, unit_past}
use Rattle.field.proofs.Elements.{gf512, element_of, of_0, of_1}
use Rattle.field.proofs.Values.{series}

-- one more entry of p with two 0s in front
pub moved_more : (p out : List ℕ) (i : ℕ) → 1 < i → i < length out → i < suc (suc (length p)) → take i out ≡ take i (0 ∷ 0 ∷ p)
    → take (i + 1) (set out i (get_or p (i - 2) 0)) ≡ take (i + 1) (0 ∷ 0 ∷ p)
moved_more p out zero z h k e = absurd (omega arith)
moved_more p out (suc zero) z h k e = absurd (omega arith)
moved_more p out (suc (suc i)) z h k e =
    let v : suc (suc i) - 2 ≡ i = omega arith in
    rw (add-one, v, take-suc-set out (suc (suc i)), e, ← take-suc (0 ∷ 0 ∷ p) (suc (suc i)) 0)

-- ---- as series

-- past the end there is nothing
series_past : (l : List ℕ) (i : ℕ) → length l ≤ i → series l i ≡ gf512.zero
unfolding series
series_past l i h = ap element_of (get_or-eq_default l 0 h) ∙ of_0

-- 0 in front is a factor x
series_0 : (l : List ℕ) (i : ℕ) → shift gf512 (series l) i ≡ series (0 ∷ l) i
unfolding series
series_0 l zero = shift_zero gf512 _ ∙ sym of_0
series_0 l (suc i) = shift_suc gf512 (series l) i

module _ (n : ℕ) (l : List ℕ) (lost : (i : ℕ) → n ≤ i → series l i ≡ gf512.zero) where
  series-take : (i : ℕ) → Dec (i < n) → series l i ≡ series (take n l) i
  unfolding series
  series-take i (yes h) = ap element_of (sym (get_or-take n l i 0 h))
  series-take i (no h) = lost i (omega arith) ∙ sym (series_past (take n l) i (simp length-take (omega arith)))

  -- two places up is x^2 times the series, where all that is lost is zero
  pub series_moved : (i : ℕ) → shift gf512 (shift gf512 (series l)) i ≡ series (0 ∷ 0 ∷ take n l) i
  series_moved i = rw (fun_ext (λ j. series-take j (dec_lt j n)), fun_ext (series_0 (take n l))) (series_0 (0 ∷ take n l) i)

-- ---- 1 and x

pub zeros_at : (n i : ℕ) → ◌≡◌ {A = ℕ} (get_or (replicate n 0) i 0) 0
zeros_at zero i = refl
zeros_at (suc n) zero = refl
zeros_at (suc n) (suc i) = zeros_at n i

pub series_1 : (n i : ℕ) → unit gf512 i ≡ series (1 ∷ replicate n 0) i
unfolding series
series_1 n zero = unit-zero gf512 ∙ sym of_1
series_1 n (suc i) = unit_past gf512 (suc i) (omega arith) ∙ sym (ap element_of (zeros_at n i) ∙ of_0)

pub series_x : (n i : ℕ) → shift gf512 (unit gf512) i ≡ series (0 ∷ 1 ∷ replicate n 0) i
series_x n i = rw (fun_ext (series_1 n)) (series_0 (1 ∷ replicate n 0) i)
