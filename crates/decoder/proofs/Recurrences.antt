-- The algorithm of Berlekamp and Massey on the code's state, two syndromes a step: its 34 places hold every coefficient while m is below 16.
-- Assumes nothing.
use mathlib.Core.Path.{◌≡◌, refl, sym, ap, ◌∙◌}
use mathlib.Core.Logic.{◌≢◌}
use mathlib.Core.List.{List, ◌∷◌}
use Prim.Native.Nat.{ℕ, suc, ◌+◌, ◌-◌, ◌*◌, ◌≤◌, ◌<◌}
use native.Mathlib.Nat.{mod-eq_of_lt}
use native.Mathlib.Numerals.{add-one}
use native.Mathlib.Omega.{arith}
use lib.ListN.{take, replicate}
use Rattle.algebra.proofs.Powers.{pow, pow-add}
use Rattle.algebra.proofs.Series.{conv, shift, mix}
use Rattle.algebra.proofs.Berlekamp.{Found}
use Rattle.algebra.proofs.Newtons.{Squares, paired_start, paired_ext, paired_none, paired_keep, paired_grow}
use Rattle.field.proofs.Elements.{gf512, element_of, of_0, of_1, of_zero}
use Rattle.field.proofs.Values.{a, series, value}
use Rattle.bits.specs.Words.{Bits}
use Rattle.bch.proofs.Generators.{value_square}
use Rattle.decoder.specs.Locators.{After, Ends, Squared}
use Rattle.decoder.specs.Syndromes.{Syndromes}
use Rattle.decoder.specs.declared.locator.State.{State}
use Rattle.decoder.proofs.Shifts.{series_moved, series_1, series_x}

nonzero : (d : ℕ) → d < 512 → d ≢ 0 → element_of d ≢ gf512.zero
nonzero d l z e = z (sym (mod-eq_of_lt l) ∙ of_zero d e)

-- the syndromes of a binary word: the value at a^(2 i + 2) is the square of that at a^(i + 1)
pub squared_syndromes : (bits s : List ℕ) (t : ℕ) → Bits bits → Syndromes bits (t * 2) s → Squared s t
squared_syndromes bits s t are known i h =
    let x = pow gf512 a (suc i) in
    let e : suc (suc (i + i)) ≡ suc i + suc i = omega arith in
    known (suc (i + i)) (omega arith)
    ∙ ap (λ u. value u bits) (ap (pow gf512 a) e ∙ pow-add gf512 a (suc i) (suc i))
    ∙ value_square x bits are
    ∙ ap (λ u. gf512.mul u u) (sym (known i (omega arith)))

-- before the first syndrome: 1 and x
pub after_start : (s : List ℕ) → After s 0 (record { locator = 1 ∷ replicate 33 0; other = 0 ∷ 1 ∷ replicate 32 0; len = 0; b = 1 })
after_start s = record {
  found = rw of_1 (paired_ext gf512 (paired_start gf512 (series s)) (series_1 33) (series_x 32));
}

-- after t pairs: what is found of all 2 t syndromes
pub found_all : {s : List ℕ} {t : ℕ} {q : State} → After s t q
    → Found gf512 (series s) (t * 2) (series q.locator) (series q.other) q.len (element_of q.b)
found_all {t = t} after = let e : t + t ≡ t * 2 = omega arith in rw e at after.found.found

-- both polynomials end at each place that the next length may be
pub ends_next : {s : List ℕ} {m : ℕ} {q : State} → After s m q → (last : ℕ) → q.len ≤ last → m + m < last + q.len
    → Ends q.locator last × Ends q.other last
ends_next after last h k = (λ i l. after.found.found.current.degree i (omega arith), λ i l. after.found.found.saved.degree i (omega arith))

module _ {s : List ℕ} {m : ℕ} {q : State} (after : After s m q) (room : m < 16) (squared : Squared s (m + 1)) where
  squares : Squares gf512 m (series s)
  squares i h = squared i (omega arith)

  moved_locator : (i : ℕ) → shift gf512 (shift gf512 (series q.locator)) i ≡ series (0 ∷ 0 ∷ take 32 q.locator) i
  moved_locator = series_moved 32 q.locator (λ i h. after.found.found.current.degree i (omega (arith, after.found.found.within)))

  moved_other : (i : ℕ) → shift gf512 (shift gf512 (series q.other)) i ≡ series (0 ∷ 0 ∷ take 32 q.other) i
  moved_other = series_moved 32 q.other (λ i h. after.found.found.saved.degree i (omega arith))

  module _ (d : ℕ) (missed : element_of d ≡ conv gf512 (series q.locator) (series s) (m + m)) where
    -- no discrepancy
    pub after_none : d ≡ 0 → After s (m + 1) (record { locator = q.locator; other = 0 ∷ 0 ∷ take 32 q.other; len = q.len; b = q.b })
    after_none z = record {
      found = rw add-one (paired_ext gf512 (paired_none gf512 after.found squares (sym missed ∙ ap element_of z ∙ of_0)) (λ i. refl) moved_other);
    }

    module _ {next : List ℕ}
        (mixed : (i : ℕ) → series next i ≡ mix gf512 (element_of q.b) (element_of d) (series q.locator) (series q.other) i) where
      -- a discrepancy that the length allows
      pub after_keep : m + m < q.len + q.len → After s (m + 1) (record { locator = next; other = 0 ∷ 0 ∷ take 32 q.other; len = q.len; b = q.b })
      after_keep h = record {
        found = rw add-one (paired_ext gf512 (paired_keep gf512 after.found squares (sym missed) h) (λ i. sym (mixed i)) moved_other);
      }

      -- a discrepancy that asks for a greater length
      pub after_grow : q.len + q.len ≤ m + m → d < 512 → d ≢ 0
          → After s (m + 1) (record { locator = next; other = 0 ∷ 0 ∷ take 32 q.locator; len = m + m + 1 - q.len; b = d })
      after_grow h l z = record {
        found = rw (add-one m, add-one (m + m))
            (paired_ext gf512 (paired_grow gf512 after.found squares (sym missed) h (nonzero d l z)) (λ i. sym (mixed i)) moved_locator);
      }
