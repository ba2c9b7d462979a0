-- The algorithm of Berlekamp and Massey, without inverses: what it has found after r terms of a series, and the steps that keep this true.
-- Assumes nothing.
use mathlib.Core.Path.{◌≡◌, sym, ◌∙◌}
use mathlib.Core.Logic.{◌≢◌}
use Prim.Native.Nat.{ℕ, zero, suc, ◌+◌, ◌-◌, ◌≤◌, ◌<◌}
use native.Mathlib.Omega.{arith}
use Rattle.algebra.proofs.Fields.{Field2, ring, add-zero, mul-zero, factor_zero}
use Rattle.algebra.proofs.Counts.{below_suc}
use Rattle.algebra.proofs.Series.{conv, shift, shift_zero, shift_suc, shift_vanish, conv-shift, mix, mix_at, mix_vanish, conv-mix, unit, unit-zero, unit_past}
use Rattle.algebra.proofs.Massey.{Generates, generates_less, generates_more, massey_length}

module _ (F : Field2) where
  open F use {Element, zero as 𝟘, one as 𝟙}

  module _ (S : ℕ → Element) where
    -- T is the locator before the last change of length, times x once for each term since; b is its discrepancy then
    pub record Saved (r : ℕ) (T : ℕ → Element) (len : ℕ) (b : Element) : Type 0 where
      pub lead : T zero ≡ 𝟘
      pub degree : (i : ℕ) → suc r < i + len → T i ≡ 𝟘
      pub vanish : (i : ℕ) → i < r → r < i + len → conv F T S i ≡ 𝟘
      pub discrepancy : zero < len → conv F T S r ≡ b
      pub nonzero : b ≢ 𝟘

    -- a shortest recurrence that generates r terms of S, and what is saved to lengthen it
    pub record Found (r : ℕ) (locator T : ℕ → Element) (len : ℕ) (b : Element) : Type 0 where
      pub current : Generates F S r locator len
      pub within : len ≤ r
      pub least : (f : ℕ → Element) (m : ℕ) → Generates F S r f m → len ≤ m
      pub saved : Saved r T len b

  module _ {S : ℕ → Element} {r : ℕ} {locator T : ℕ → Element} {len : ℕ} {b : Element} (found : Found S r locator T len b) where
    open found use {current, least, saved}

    saved_shift : Saved S (suc r) (shift F T) len b
    saved_shift = record {
      lead = shift_zero F T;
      degree = λ i h. shift_vanish F T i (λ j e. saved.degree j (omega arith));
      vanish = λ i l h. rw conv-shift (shift_vanish F _ i (λ j e. saved.vanish j (omega arith) (omega arith)));
      discrepancy = λ h. rw (conv-shift, shift_suc) (saved.discrepancy h);
      nonzero = saved.nonzero;
    }

    -- no discrepancy
    pub step_none : conv F locator S r ≡ 𝟘 → Found S (suc r) locator (shift F T) len b
    step_none h = record {
      current = generates_more F current h;
      within = omega arith;
      least = λ f m g. least f m (generates_less F g);
      saved = saved_shift;
    }

    module _ {d : Element} (missed : conv F locator S r ≡ d) where
      saved_locator : len + len ≤ r → d ≢ 𝟘 → Saved S (suc r) (shift F locator) (suc r - len) d
      saved_locator k z = record {
        lead = shift_zero F locator;
        degree = λ i h. shift_vanish F locator i (λ j e. current.degree j (omega arith));
        vanish = λ i l h. rw conv-shift (shift_vanish F _ i (λ j e. current.vanish j (omega arith) (omega arith)));
        discrepancy = λ h. rw (conv-shift, shift_suc) missed;
        nonzero = z;
      }

      mixed : (m : ℕ) → len ≤ m → suc r ≤ m + len → Generates F S (suc r) (mix F b d locator T) m
      mixed m k l = record {
        lead = λ e. current.lead (factor_zero F b _ saved.nonzero (simp (mix_at, saved.lead, mul-zero, add-zero) at e));
        degree = λ i h. mix_vanish F b d locator T i (current.degree i (omega arith)) (saved.degree i (omega arith));
        vanish = below_suc
            (λ i h j. rw conv-mix (mix_vanish F b d _ _ i (current.vanish i h (omega arith)) (saved.vanish i h (omega arith))))
            (λ j. simp (conv-mix, mix_at, missed, saved.discrepancy (omega arith), ring));
      }

      -- a discrepancy that the length allows
      pub step_keep : r < len + len → Found S (suc r) (mix F b d locator T) (shift F T) len b
      step_keep h = record {
        current = mixed len (omega arith) (omega arith);
        within = omega arith;
        least = λ f m g. least f m (generates_less F g);
        saved = saved_shift;
      }

      -- a discrepancy that asks for a greater length
      pub step_grow : len + len ≤ r → d ≢ 𝟘 → Found S (suc r) (mix F b d locator T) (shift F locator) (suc r - len) d
      step_grow h z = record {
        current = mixed (suc r - len) (omega arith) (omega arith);
        within = omega arith;
        least = λ f m g. (let q = massey_length F current (λ e. z (sym missed ∙ e)) g in omega arith);
        saved = saved_locator h z;
      }

  -- before the first term: the locator 1, and T = x
  pub found_start : (S : ℕ → Element) → Found S zero (unit F) (shift F (unit F)) zero 𝟙
  found_start S = record {
    current = record {
      lead = λ e. F.one-ne-zero (sym (unit-zero F) ∙ e);
      degree = unit_past F;
      vanish = λ i l. absurd (omega arith);
    };
    within = omega arith;
    least = λ f m g. omega arith;
    saved = record {
      lead = shift_zero F (unit F);
      degree = λ i h. shift_vanish F (unit F) i (λ j e. unit_past F j (omega arith));
      vanish = λ i l. absurd (omega arith);
      discrepancy = λ l. absurd (omega arith);
      nonzero = F.one-ne-zero;
    };
  }
