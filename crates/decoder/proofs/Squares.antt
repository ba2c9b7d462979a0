-- Syndromes one after the other: at an odd power of a as it was found, at an even one the square of that at half of it.
-- Assumes nothing.
use mathlib.Core.Path.{◌≡◌, sym, ap, ◌∙◌}
use mathlib.Core.List.{List}
use Prim.Native.Nat.{ℕ, suc, ◌+◌, ◌*◌, ◌<◌}
use native.Mathlib.Omega.{arith}
use borrow.Author.Count.{below_more}
use lib.ListN.{length, get_or, set}
use lib.Seq.{get_or-set_same, get_or-set_other}
use Rattle.algebra.proofs.Powers.{pow, pow-add}
use Rattle.field.specs.Field.{product}
use Rattle.field.proofs.Elements.{gf512, element_of, of_product}
use Rattle.field.proofs.Values.{a, series, value}
use Rattle.bits.specs.Words.{Bits}
use Rattle.bch.proofs.Generators.{value_square}
use Rattle.decoder.specs.Syndromes.{Odds, Syndromes}

module _ (bits out : List ℕ) where
  one_more : (n p : ℕ) → n < length out → Syndromes bits n out → element_of p ≡ value (pow gf512 a (suc n)) bits → Syndromes bits (n + 1) (set out n p)
  unfolding series
  one_more n p room s is =
      below_more (λ i. series (set out n p) i ≡ value (pow gf512 a (suc i)) bits) n
      (λ i h. ap element_of (get_or-set_other out n i p 0 (omega arith)) ∙ s i h) (ap element_of (get_or-set_same out n p 0 room) ∙ is)

  pub odd_more : (odd : List ℕ) (t l : ℕ) → l < t → l * 2 < length out → Odds bits t odd → Syndromes bits (l * 2) out
      → Syndromes bits (l * 2 + 1) (set out (l * 2) (get_or odd l 0))
  unfolding series
  odd_more odd t l low room odds s =
      let e : 2 * l + 1 ≡ suc (l * 2) = omega arith in
      one_more (l * 2) (get_or odd l 0) room s (odds l low ∙ ap (λ (n : ℕ). value (pow gf512 a n) bits) e)

  pub square_more : Bits bits → (l : ℕ) → l * 2 + 1 < length out → Syndromes bits (l * 2 + 1) out
      → Syndromes bits (l * 2 + 1 + 1) (set out (l * 2 + 1) (product (get_or out l 0) (get_or out l 0)))
  unfolding series
  square_more are l room s =
      let x = pow gf512 a (suc l) in
      let e : suc l + suc l ≡ suc (l * 2 + 1) = omega arith in
      let half : element_of (get_or out l 0) ≡ value x bits = s l (omega arith) in
      one_more (l * 2 + 1) _ room s
      (of_product _ _ ∙ ap (λ u. gf512.mul u u) half ∙ sym (value_square x bits are)
      ∙ ap (λ u. value u bits) (sym (pow-add gf512 a (suc l) (suc l)) ∙ ap (pow gf512 a) e))
