-- Whether bits of machine words end at a place: they do where the machine words are those of the bits before that place, with zeros behind.
-- Assumes nothing.
use mathlib.Core.Path.{◌≡◌, sym, ap, ◌∙◌}
use mathlib.Core.Bool.{Bool, true, false}
use mathlib.Core.List.{List}
use Prim.Native.Nat.{ℕ}
use borrow.Author.Tests.{eq-eqb, ne_eqb}
use lib.Dec.{eqb}
use lib.ListN.{length, take}
use lib.Pointwise.{pointwise}
use Rattle.std.specs.Cmp.Lexicographic.{told_text}
use Rattle.bits.specs.Words.{differ}
use Rattle.bits.proofs.Distances.{differ_self, differ-zero}
use Rattle.packed.specs.Packed.{bits512, padded}
use Rattle.packed.proofs.Once.{Wide, words_once}

module _ (words kept : List ℕ) (n : ℕ) (first : bits512 kept ≡ padded (take n (bits512 words))) (lk : length kept ≡ 8) (lw : length words ≡ 8)
    (wk : Wide kept) (ww : Wide words) where
  pub ends : (r : Bool) → r ≡ pointwise eqb kept words → r ≡ eqb (differ (bits512 words) (padded (take n (bits512 words)))) 0
  ends true e =
      let same : bits512 words ≡ padded (take n (bits512 words)) = ap bits512 (sym (told_text kept words true e)) ∙ first in
      sym (eq-eqb _ 0 (ap (differ (bits512 words)) (sym same) ∙ differ_self (bits512 words)))
  ends false e = sym (ne_eqb _ 0 (λ z. told_text kept words false e (words_once kept words lk lw wk ww (first ∙ sym (differ-zero _ _ z)))))
