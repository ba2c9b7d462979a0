-- The contracts of the crate leave one result: a machine word is told by its digits, and so many by their bits.
-- Assumes nothing.
use mathlib.Core.Path.{◌≡◌, sym, ap, ◌∙◌}
use mathlib.Core.List.{List}
use Prim.Native.Nat.{ℕ, ◌*◌, ◌^◌, ◌<◌}
use native.Mathlib.Omega.{arith}
use lib.ListN.{length, get_or, take, drop}
use lib.Seq.{ext_get_or}
use Rattle.bits.specs.Words.{digits}
use Rattle.bits.proofs.Numbers.{digits_inj}
use Rattle.packed.specs.Packed.{bits_from, bits512}
use Rattle.packed.proofs.Walks.{word_from}

pub word_once : (x y : ℕ) → x < 2 ^ 64 → y < 2 ^ 64 → digits 64 x ≡ digits 64 y → x ≡ y
word_once = digits_inj 64

-- every entry is a machine word
abbrev pub Wide : List ℕ → Type 0
Wide v = (i : ℕ) → get_or v i 0 < 2 ^ 64

pub words_once_from : (n : ℕ) (v w : List ℕ) → length v ≡ n → length w ≡ n → Wide v → Wide w → bits_from n 0 v ≡ bits_from n 0 w → v ≡ w
words_once_from n v w lv lw wv ww e =
    ext_get_or 0 v w (lv ∙ sym lw) (λ i h. word_once _ _ (wv i) (ww i) (same i (omega arith)))
  where
    same : (i : ℕ) → i < n → digits 64 (get_or v i 0) ≡ digits 64 (get_or w i 0)
    same i h = sym (word_from v n i h) ∙ ap (λ (l : List ℕ). take 64 (drop (64 * i) l)) e ∙ word_from w n i h

pub words_once : (v w : List ℕ) → length v ≡ 8 → length w ≡ 8 → Wide v → Wide w → bits512 v ≡ bits512 w → v ≡ w
unfolding bits512
words_once = words_once_from 8
