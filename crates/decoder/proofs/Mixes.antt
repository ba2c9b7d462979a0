-- b f + d g on lists, entry by entry.
-- Assumes nothing.
use mathlib.Core.Path.{◌≡◌, sym, ap, ap₂, ◌∙◌}
use mathlib.Core.List.{List}
use Prim.Native.Nat.{ℕ, ◌+◌, ◌≤◌, ◌<◌}
use native.Mathlib.Decide.{dec_lt}
use native.Mathlib.Omega.{arith}
use borrow.Author.Count.{below_more}
use lib.Bits.{bit_xor}
use lib.ListN.{length, get_or, set, replicate}
use lib.Seq.{get_or-set_same, get_or-set_other}
use Rattle.algebra.proofs.Series.{mix, mix_at, mix_vanish}
use Rattle.field.specs.Field.{product}
use Rattle.field.proofs.Elements.{gf512, element_of, of_0, of_product, of_xor}
use Rattle.field.proofs.Values.{series}
use Rattle.decoder.specs.Locators.{Ends}
use Rattle.decoder.proofs.Shifts.{zeros_at}

module _ (b d : ℕ) (f g : List ℕ) where
  -- the entry k, as the code computes it
  abbrev pub mixed_at : ℕ → ℕ
  mixed_at k = bit_xor (product b (get_or f k 0)) (product d (get_or g k 0))

  -- the first n entries of `out` are mixed, and the others are 0
  pub record Mixed (out : List ℕ) (n : ℕ) : Type 0 where
    pub entry : (k : ℕ) → k < n → get_or out k 0 ≡ mixed_at k
    pub rest : (k : ℕ) → n ≤ k → get_or out k 0 ≡ 0

  pub mixed_none : (m : ℕ) → Mixed (replicate m 0) 0
  mixed_none m = record { entry = λ k h. absurd (omega arith); rest = λ k h. zeros_at m k }

module _ {b d : ℕ} {f g out : List ℕ} {n : ℕ} (m : Mixed b d f g out n) where
  pub mixed_more : n < length out → Mixed b d f g (set out n (mixed_at b d f g n)) (n + 1)
  mixed_more l = record {
    entry = below_more (λ k. get_or (set out n (mixed_at b d f g n)) k 0 ≡ mixed_at b d f g k) n
        (λ k h. get_or-set_other out n k _ 0 (omega arith) ∙ m.entry k h) (get_or-set_same out n _ 0 l);
    rest = λ k h. get_or-set_other out n k _ 0 (omega arith) ∙ m.rest k (omega arith);
  }

  module _ {last : ℕ} (past : last < n) (ends_f : Ends f last) (ends_g : Ends g last) where
    series_at : (k : ℕ) → Dec (k < n) → series out k ≡ mix gf512 (element_of b) (element_of d) (series f) (series g) k
    unfolding series
    series_at k (yes h) =
        ap element_of (m.entry k h) ∙ of_xor _ _ ∙ ap₂ gf512.add (of_product b _) (of_product d _)
        ∙ sym (mix_at gf512 _ _ (series f) (series g) k)
    series_at k (no h) =
        ap element_of (m.rest k (omega arith)) ∙ of_0 ∙ sym (mix_vanish gf512 _ _ _ _ k (ends_f k (omega arith)) (ends_g k (omega arith)))

    pub series_mixed : (k : ℕ) → series out k ≡ mix gf512 (element_of b) (element_of d) (series f) (series g) k
    series_mixed k = series_at k (dec_lt k n)
