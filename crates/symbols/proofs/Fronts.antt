-- The first bits of 512 at the front of a run, cut before, and zeros behind them.
-- Assumes nothing.
use mathlib.Core.Path.{◌≡◌, sym, ap, ◌∙◌}
use mathlib.Core.List.{List, [], ◌++◌, append_assoc, append-nil}
use Prim.Native.Nat.{ℕ, ◌+◌, ◌-◌, min}
use native.Mathlib.Omega.{arith}
use lib.ListN.{length, take, replicate, length-take}
use lib.Seq.{take_at}
use Rattle.packed.specs.Packed.{bits_from, bits512, padded, padded_to}
use Rattle.packed.proofs.Walks.{length_512}
use Rattle.packed.proofs.Amid.{zeros_split}

module _ (front cut out : List ℕ) (count : ℕ)
    (first : bits512 cut ≡ padded (take count (bits512 front))) (begun : bits_from 41 0 out ≡ bits512 cut ++ replicate 2112 0) where
  abbrev word : List ℕ
  word = take count (bits512 front)

  word_long : length word ≡ min count 512
  word_long = length-take count (bits512 front) ∙ ap (min count) (length_512 front)

  front_padded : bits_from 41 0 out ≡ padded_to 2624 word
  front_padded =
      let k = 512 - length word in
      let e : k + 2112 ≡ 2624 - length word = omega (arith, word_long) in
      begun ∙ ap (λ (l : List ℕ). l ++ replicate 2112 0) first ∙ append_assoc word (replicate k 0) (replicate 2112 0)
      ∙ ap (λ (l : List ℕ). word ++ l) (sym (zeros_split k 2112 (2624 - length word) e))

  -- nothing behind them
  pub front_alone : bits_from 41 0 out ≡ padded_to 2624 (word ++ [])
  front_alone = front_padded ∙ ap (padded_to 2624) (sym (append-nil word))

  -- those are as many as the lesser of count and 512
  module _ (n : ℕ) (least : n ≡ min count 512) where
    pub front_taken : take n (bits_from 41 0 out) ≡ word
    front_taken = ap (take n) front_padded ∙ take_at word (replicate (2624 - length word) 0) n (word_long ∙ sym least)

    pub front_blank : bits_from 41 0 out ≡ padded_to 2624 (take n (bits_from 41 0 out))
    front_blank = front_padded ∙ ap (padded_to 2624) (sym front_taken)
