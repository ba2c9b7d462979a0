-- What a step of Horner's rule reads: x a^e, and the values of four digits from the table, which a computed test holds to its rule.
-- Assumes nothing.
use mathlib.Core.Path.{◌≡◌, ap, ◌∙◌}
use mathlib.Core.Bool.{Bool}
use mathlib.Core.List.{List, ◌++◌}
use Prim.Native.Nat.{ℕ, ◌+◌, ◌*◌}
use lib.Dec.{T, eqb}
use lib.ListN.{get_or, replicate}
use Rattle.ground.proofs.Tests.{all, all_at, all_equal}
use Rattle.algebra.proofs.Powers.{pow}
use Rattle.field.specs.Field.{sum, product, times, shifted, power}
use Rattle.field.proofs.Elements.{gf512, element_of, of_0, of_product}
use Rattle.field.proofs.Values.{a, value, of_power}
use Rattle.bits.specs.Words.{digits}
use Rattle.bch.proofs.Generators.{horner_from, of_horner}
use Rattle.decoder.specs.Syndromes.{Half, DigitValues}
use Rattle.decoder.specs.declared.digit_values.TheConstants.{DIGIT_VALUES}

-- ---- x a^e

pub of_times_power : (x e : ℕ) → element_of (product x (power e)) ≡ gf512.mul (element_of x) (pow gf512 a e)
of_times_power x e = of_product x (power e) ∙ ap (gf512.mul (element_of x)) (of_power e)

-- ---- the values of four digits

-- what four digits v are worth at a^(2 l + 1), with k zeros behind them
abbrev worth : ℕ → ℕ → ℕ → ℕ
worth k v l = horner_from 0 (power (2 * l + 1)) (digits 4 v ++ replicate k 0)

-- the sixteen entries of v, and all entries of a half, are what the digits are worth
abbrev row_right : ℕ → ℕ → List ℕ → ℕ → Bool
row_right k from table v = all 16 (λ l. eqb (get_or table (from + v * 16 + l) 0) (worth k v l))

abbrev pub half_right : ℕ → ℕ → List ℕ → Bool
half_right k from table = all 16 (row_right k from table)

half : (k from : ℕ) (table : List ℕ) → T (half_right k from table) → Half k from table
unfolding value
half k from table test v l hv hl =
    let row = all_at 16 (row_right k from table) test v hv in
    ap element_of (all_equal 16 (λ l. get_or table (from + v * 16 + l) 0) (worth k v) row l hl) ∙ of_horner 0 _ _ ∙ rw (of_power, of_0)

pub digit_values : (table : List ℕ) → T (half_right 0 0 table) → T (half_right 4 256 table) → DigitValues table
digit_values table low high = record { low = half 0 0 table low; high = half 4 256 table high }

pub values_are : DigitValues DIGIT_VALUES
unfolding horner_from digits sum product times shifted power
values_are = digit_values DIGIT_VALUES tt tt
