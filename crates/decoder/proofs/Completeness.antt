-- Decoding is complete: where a codeword lies within t of a word, to flip the word where the locator vanishes gives that codeword.
-- Assumes nothing.
use mathlib.Core.Path.{◌≡◌, refl, sym, ap, ◌∙◌}
use mathlib.Core.List.{List}
use mathlib.Core.Logic.Dec
use mathlib.Core.Logic.{◌≢◌, by_cases}
use Prim.Native.Nat.{ℕ, suc, ◌+◌, ◌-◌, ◌*◌, ◌≤◌, ◌<◌}
use native.Mathlib.Omega.{arith}
use lib.ListN.{length, get_or}
use lib.Seq.{ext_get_or}
use Rattle.algebra.proofs.Fields.{zero-add}
use Rattle.algebra.proofs.Places.{Distinct, weight, roots, weight-roots}
use Rattle.algebra.proofs.Powers.{pow}
use Rattle.algebra.proofs.Polynomials.{ev}
use Rattle.algebra.proofs.Berlekamp.{Found}
use Rattle.algebra.proofs.Words.{synd, value as at_inverse, few_places, root_of_error, error_of_root, len_is_weight}
use Rattle.field.proofs.Elements.{gf512}
use Rattle.field.proofs.Values.{a, series, a_nonzero, a_differ, a_inverse}
use Rattle.bits.specs.Words.{Bits, differ}
use Rattle.bch.specs.Codes.{Code, Within}
use Rattle.decoder.specs.Locators.{value_at, Turned}
use Rattle.decoder.specs.declared.search.Flips.{Flips}
use Rattle.decoder.specs.Syndromes.{Syndromes}
use Rattle.bch.specs.Held.{Rooted}
use Rattle.bits.proofs.Digits.{bits_at, bits_from}
use Rattle.bch.proofs.Errors.{Pair, error, weight-error, synd-error, same_of_error, error_of_same}
use Rattle.bch.proofs.Roots.{codeword_zero}
open gf512 use {Element, zero as 𝟘, same?}

-- the value of the locator at the index i, in the words of the theory
place_value : (locator : List ℕ) (len n i : ℕ) → n ≤ 511 → i < n
    → at_inverse gf512 a len (series locator) (n - suc i) ≡ value_at locator (suc len) (512 - n) i
place_value locator len n i h l =
    let e : 511 - (n - suc i) ≡ 512 - n + i = omega arith in
    ap (ev gf512 (suc len) (series locator)) (a_inverse (n - suc i) (omega arith) ∙ ap (pow gf512 a) e)

other_bit : (x y : ℕ) → x < 2 → y < 2 → x ≢ y → x ≡ 1 - y
other_bit x y h k d = omega arith

-- a place is an index, counted from the last
by_index : (n : ℕ) (P : ℕ → Type 0) → ((i : ℕ) → i < n → P (n - suc i)) → (p : ℕ) → p < n → P p
by_index n P h p l = let e : n - suc (n - suc p) ≡ p = omega arith in rw e at (h (n - suc p) (omega arith))

-- ---- the word that is flipped where the locator vanishes

module _ {locator : List ℕ} {len : ℕ} {w copy : List ℕ} {flips : Flips} (bits : Bits w) (turned : Turned locator len w copy flips) where
  turned_bit : (i : ℕ) → i < length w → get_or copy i 0 < 2
  turned_bit i l =
      by_cases (same? (value_at locator (suc len) (512 - length w) i) 𝟘) (λ z. rw (turned.flipped i l z) (omega arith))
      (λ z. rw (turned.kept i l z) (bits_at w bits i))

  pub turned_bits : Bits copy
  turned_bits = bits_from copy (rw turned.long turned_bit)

  turned_pair : Pair (length w) copy w
  turned_pair = record { first_bits = turned_bits; first_long = turned.long; second_bits = bits; second_long = refl }

  module _ (short : length w ≤ 511) where
    changed_at : (i : ℕ) → i < length w → error copy w (length w - suc i) ≢ 𝟘
        → at_inverse gf512 a len (series locator) (length w - suc i) ≡ 𝟘
    changed_at i l h =
        place_value locator len (length w) i short l
        ∙ (Dec.not-not (same? _ 𝟘)).0 (λ z. h (error_of_same turned_pair i l (turned.kept i l z)))

    changed_places : weight gf512 (length w) (error copy w) ≤ roots gf512 (length w) (at_inverse gf512 a len (series locator))
    changed_places = weight-roots gf512 (length w) (error copy w) _ (by_index (length w) _ changed_at)

    -- no more places are flipped than the locator is long
    pub few : series locator 0 ≢ 𝟘 → flips.count ≤ len
    few lead =
        let e = weight-error turned_pair in
        let h = changed_places in
        let f = few_places gf512 a a_nonzero (length w) (a_differ (length w) short) (series locator) len lead in
        let s = turned.count in
        omega arith

-- ---- the codeword within t

module _ {c : Code} (rooted : Rooted c)
    {w v : List ℕ} (bits : Bits w) (long : length w ≡ c.n) (within : Within c w v) where
  pair : Pair (length w) v w
  pair = record {
    first_bits = within.codeword.bits;
    first_long = within.codeword.long ∙ sym long;
    second_bits = bits;
    second_long = refl;
  }

  short : length w ≤ 511
  short = omega (arith, rooted.places)

  module _ (s : List ℕ) (known : Syndromes w (c.t * 2) s) where
    -- the syndromes of the word are those of its error
    error_known : (i : ℕ) → i < c.t * 2 → series s i ≡ synd gf512 a (length w) (error v w) i
    error_known i l =
        known i l ∙ sym (synd-error pair i ∙ rw (codeword_zero rooted (suc i) (omega arith) l within.codeword) (zero-add gf512 _))

    error_light : weight gf512 (length w) (error v w) + weight gf512 (length w) (error v w) ≤ c.t * 2
    error_light = omega (arith, weight-error pair, within.near)

    module _ (locator : List ℕ) {T : ℕ → Element} {len : ℕ} {b : Element}
        (found : Found gf512 (series s) (c.t * 2) (series locator) T len b) where
      order : Distinct (length w) (pow gf512 a)
      order = a_differ (length w) short

      -- the locator's length is the number of places that differ
      pub exact : len ≡ differ v w
      exact = len_is_weight gf512 a a_nonzero (length w) order (error v w) error_known error_light found ∙ weight-error pair

      module _ {copy : List ℕ} {flips : Flips} (turned : Turned locator len w copy flips) where
        flipped_at : (i : ℕ) → i < length w → value_at locator (suc len) (512 - length w) i ≡ 𝟘 → get_or v i 0 ≡ get_or copy i 0
        flipped_at i l z =
            other_bit (get_or v i 0) (get_or w i 0) (bits_at v pair.first_bits i) (bits_at w bits i)
            (λ e. error_of_root gf512 a a_nonzero (length w) order (error v w) error_known error_light found (length w - suc i) (omega arith)
            (place_value locator len (length w) i short l ∙ z) (error_of_same pair i l e))
            ∙ sym (turned.flipped i l z)

        kept_at : (i : ℕ) → i < length w → value_at locator (suc len) (512 - length w) i ≢ 𝟘 → get_or v i 0 ≡ get_or copy i 0
        kept_at i l z =
            same_of_error pair i l ((Dec.not-not (same? _ 𝟘)).0 (λ h. z (sym (place_value locator len (length w) i short l)
            ∙ root_of_error gf512 a a_nonzero (length w) order (error v w) error_known error_light found (length w - suc i) (omega arith) h)))
            ∙ sym (turned.kept i l z)

        mended : (i : ℕ) → i < length w → get_or v i 0 ≡ get_or copy i 0
        mended i l = by_cases (same? (value_at locator (suc len) (512 - length w) i) 𝟘) (flipped_at i l) (kept_at i l)

        -- and the copy is the codeword
        pub complete : v ≡ copy
        complete = ext_get_or 0 v copy (pair.first_long ∙ sym turned.long) (rw pair.first_long mended)
