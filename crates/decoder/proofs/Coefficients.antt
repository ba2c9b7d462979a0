-- A coefficient of a product of two series, summed term by term from numbers.
-- Assumes nothing.
use mathlib.Core.Path.{◌≡◌, sym, ap, ap₂, ◌∙◌}
use mathlib.Core.List.{List}
use Prim.Native.Nat.{ℕ, zero, suc, ◌+◌, ◌-◌, ◌<◌}
use native.Mathlib.Omega.{arith}
use lib.Bits.{bit_xor, xor_lt}
use lib.ListN.{get_or}
use Rattle.algebra.proofs.Fields.{add-zero, zero-mul}
use Rattle.algebra.proofs.Sums.{sum, sum_nil, sum-suc}
use Rattle.algebra.proofs.Series.{conv, conv-sum}
use Rattle.field.specs.Field.{product}
use Rattle.field.proofs.Products.{product_lt}
use Rattle.field.proofs.Elements.{gf512, element_of, of_0, of_product, of_xor}
use Rattle.field.proofs.Values.{series}
use Rattle.decoder.specs.Locators.{Ends}

module _ (f g : List ℕ) (r : ℕ) where
  abbrev term : ℕ → gf512.Element
  term j = gf512.mul (series f j) (series g (r - j))

  -- d is the sum of the first n terms of the coefficient r of f g
  pub record Summed (n d : ℕ) : Type 0 where
    pub sums : element_of d ≡ sum gf512 n term
    pub small : d < 512

module _ {f g : List ℕ} {r : ℕ} where
  pub summed_none : Summed f g r 0 0
  summed_none = record { sums = of_0 ∙ sym (sum_nil gf512 _); small = omega arith }

  pub summed_more : {n d : ℕ} → Summed f g r n d → Summed f g r (suc n) (bit_xor d (product (get_or f n 0) (get_or g (r - n) 0)))
  unfolding series
  summed_more h = record {
    sums = of_xor _ _ ∙ ap₂ gf512.add h.sums (of_product _ _) ∙ sym (sum-suc gf512 _ _);
    small = xor_lt 9 _ _ h.small (product_lt _ _);
  }

  -- behind the last entry of f the terms are zero, so that the k that are missing add nothing
  pub summed_all : {last n d : ℕ} (k : ℕ) → Ends f last → last < n → n + k ≡ suc r → Summed f g r n d
      → element_of d ≡ conv gf512 (series f) (series g) r
  summed_all {n = n} zero ends l e h =
      let all : n ≡ suc r = omega arith in (rw all at h.sums) ∙ sym (conv-sum gf512 (series f) (series g) r)
  summed_all {n = n} (suc k) ends l e h =
      let none : term f g r n ≡ gf512.zero = ap (λ (u : gf512.Element). gf512.mul u (series g (r - n))) (ends n l) ∙ zero-mul gf512 _ in
      summed_all {n = suc n} k ends (omega arith) (omega arith)
      (record { sums = h.sums ∙ sym (sum-suc gf512 n _ ∙ ap (gf512.add _) none ∙ add-zero gf512 _); small = h.small })
