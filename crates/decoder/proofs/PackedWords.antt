-- The first n bits of a packed word, as a word of a code: that there are n of them, what is left of them, and one of them flipped.
-- Assumes nothing.
use mathlib.Core.Path.{◌≡◌, sym, ap, ap₂, ◌∙◌}
use mathlib.Core.List.{List, ◌++◌}
use Prim.Native.Nat.{ℕ, suc, ◌+◌, ◌-◌, ◌*◌, ◌<◌, min}
use native.Mathlib.Omega.{arith}
use lib.Bits.{bit_xor}
use lib.ListN.{length, take, drop, get_or, set, replicate, length-drop}
use lib.Seq.{length-take-le, take-take, take-append-add, drop-append-le, take-set-lt, set-append_left, get_or-take}
use Rattle.bits.specs.Words.{Bits}
use Rattle.bits.specs.Remainders.{remainder}
use Rattle.bits.proofs.Digits.{bits_take}
use Rattle.packed.specs.Packed.{bits512}
use Rattle.packed.proofs.Walks.{length_512, bits_512}
use Rattle.packed.proofs.Paddings.{take-zeros, drop-zeros}
use Rattle.bch.proofs.Sounds.{degree_192}
use Rattle.remainders.specs.Taking.{leftover_by}
use Rattle.remainders.proofs.Windows.{at_top_zeros}
use Rattle.remainders.proofs.Leftovers.{leftover_by_lem, table_narrowed}
use Rattle.bch.specs.Registers.{whole, at_top}
use Rattle.bch.specs.Held.{Sound, table_of, Tabled}
use Rattle.bch.specs.declared.code.Held.{Held}
use Rattle.decoder.specs.Candidates.{leftover, word_of, Clear, below_of, Ready}
use Rattle.decoder.proofs.Attempts.{Neighbour, neighbour}

-- ---- zeros behind

abbrev zeros : ℕ → List ℕ
zeros n = replicate n 0

-- ---- the first n bits

module _ {h : Held} (sound : Sound h) (words : List ℕ) where
  pub word_long : length (word_of h words) ≡ h.n
  unfolding word_of
  word_long = length-take-le h.n (bits512 words) (omega (arith, length_512 words, sound.short))

  pub word_bits : Bits (word_of h words)
  unfolding word_of
  word_bits = bits_take h.n (bits512 words) (bits_512 words)

  -- there is no bit behind
  clear_so : bits512 words ≡ word_of h words ++ zeros (512 - h.n) → Clear h words
  clear_so e = e ∙ ap (λ (n : ℕ). word_of h words ++ zeros (512 - n)) (sym word_long)

module _ {h : Held} (sound : Sound h) (words : List ℕ) (clear : Clear h words) where
  as_zeros : bits512 words ≡ word_of h words ++ zeros (512 - h.n)
  as_zeros = clear ∙ ap (λ (n : ℕ). word_of h words ++ zeros (512 - n)) (word_long sound words)

  -- what stands packed: the word, and the rest of 512 zeros
  pub written : bits512 words ≡ word_of h words ++ drop h.n (zeros 512)
  written = as_zeros ∙ ap (λ (l : List ℕ). word_of h words ++ l) (sym (drop-zeros h.n 512))

  -- ---- what is left

  information_there : take h.k (bits512 words) ≡ take h.k (word_of h words)
  unfolding word_of
  information_there = sym (take-take h.k h.n (bits512 words) (omega (arith, sound.rooted.order)))

  behind_there : take 192 (drop h.k (bits512 words)) ≡ drop h.k (word_of h words) ++ zeros (min (192 - (h.n - h.k)) (512 - h.n))
  behind_there =
      let w = word_of h words in
      let v = drop h.k w in
      let m = 192 - (h.n - h.k) in
      let long : length v ≡ h.n - h.k = length-drop h.k w ∙ ap (λ (n : ℕ). n - h.k) (word_long sound words) in
      let s : 192 ≡ length v + m = omega (arith, sound.narrow) in
      ap (λ (l : List ℕ). take 192 (drop h.k l)) as_zeros
      ∙ ap (take 192) (drop-append-le h.k w (zeros (512 - h.n)) (omega (arith, word_long sound words, sound.rooted.order)))
      ∙ ap (λ (i : ℕ). take i (v ++ zeros (512 - h.n))) s
      ∙ take-append-add v (zeros (512 - h.n)) m
      ∙ ap (λ (l : List ℕ). v ++ l) (take-zeros m (512 - h.n))

  behind_left : at_top (take 192 (drop h.k (bits512 words))) ≡ at_top (drop h.k (word_of h words))
  behind_left = ap at_top behind_there ∙ at_top_zeros (drop h.k (word_of h words)) (min (192 - (h.n - h.k)) (512 - h.n))

  -- ---- one place flipped

  module _ (copy : List ℕ) (p : ℕ) (low : p < h.n) (e : bits512 copy ≡ set (bits512 words) p (1 - get_or (bits512 words) p 0)) where
    same_bit : get_or (bits512 words) p 0 ≡ get_or (word_of h words) p 0
    unfolding word_of
    same_bit = sym (get_or-take h.n (bits512 words) p 0 low)

    word_flipped : word_of h copy ≡ set (word_of h words) p (1 - get_or (word_of h words) p 0)
    unfolding word_of
    word_flipped =
        ap (take h.n) e ∙ take-set-lt h.n (bits512 words) p (1 - get_or (bits512 words) p 0) low
        ∙ ap (λ (b : ℕ). set (take h.n (bits512 words)) p (1 - b)) same_bit

    pub clear_flipped : Clear h copy
    clear_flipped =
        let w = word_of h words in
        clear_so sound copy
        (e ∙ ap₂ (λ (l : List ℕ) (b : ℕ). set l p (1 - b)) as_zeros same_bit
        ∙ set-append_left w (zeros (512 - h.n)) p (1 - get_or w p 0) (omega (arith, word_long sound words))
        ∙ ap (λ (l : List ℕ). l ++ zeros (512 - h.n)) (sym word_flipped))

    pub neighbour_flipped : Neighbour (word_of h words) (word_of h copy) p
    neighbour_flipped = rw word_flipped (neighbour (word_of h words) p (word_bits sound words) (omega (arith, word_long sound words)))

-- ---- what the table gives

-- a code's own
pub ready : {h : Held} → Sound h → Tabled h → Ready h (table_of h)
ready sound rule = record { sound = sound; rule = table_narrowed sound rule }

-- it is what is left of the word
pub left_by : {h : Held} {table : List ℕ} → Ready h table → (words : List ℕ) → Clear h words
    → leftover_by (take (64 * suc (below_of h)) table) h.k words ≡ leftover h (word_of h words)
unfolding leftover
left_by {h} {table} ready words clear =
    let sound = ready.sound in
    leftover_by_lem (whole h.generator) (take (64 * suc (below_of h)) table) words h.k ready.rule (degree_192 sound) sound.bytes (omega (arith, sound.rooted.order, sound.short))
    ∙ ap₂ (λ (m : List ℕ) (x : ℕ). bit_xor (remainder 192 (whole h.generator) m) x) (information_there sound words clear) (behind_left sound words clear)
