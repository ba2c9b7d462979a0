-- Bits at the top of a register put behind a packed word: the register's machine words packed, put so many places behind, and added.
-- Assumes nothing.
use mathlib.Core.Path.{◌≡◌, refl, sym, ap, ap₂, ◌∙◌}
use mathlib.Core.List.{List, [], ◌∷◌, ◌++◌, append_assoc, zip_with}
use Prim.Native.Nat.{ℕ, ◌+◌, ◌-◌, ◌^◌, ◌≤◌, ◌<◌}
use native.Mathlib.Omega.{arith}
use lib.Bits.{bit_xor, xor_zero_r}
use lib.Dec.{lit<}
use lib.ListN.{length, take, drop, replicate, length-append, length-replicate, take-append-drop, replicate-append-replicate}
use lib.Seq.{length-take-le, take_at, drop_at}
use Rattle.bits.specs.Words.{Bits, digits}
use Rattle.bits.proofs.Copies.{bits_zeros}
use Rattle.bits.proofs.Digits.{bits_take, bits_append}
use Rattle.bits.proofs.Sums.{zeros_sum}
use Rattle.packed.specs.Packed.{bits_from, bits512, padded}
use Rattle.packed.proofs.Walks.{from_append, length_from, length_512, bits_512}
use Rattle.packed.proofs.Windows.{across_none}
use Rattle.bch.specs.Registers.{tops, at_top}
use Rattle.bch.proofs.Triples.{joined}
use Rattle.bch.proofs.Tops.{tops-at_top}
use Rattle.remainders.proofs.Windows.{window, at_top_zeros}

abbrev zeros : ℕ → List ℕ
zeros n = replicate n 0

-- ---- the machine words of a register, packed

abbrev pub eight_of : ℕ → ℕ → ℕ → List ℕ
eight_of h m l = h ∷ m ∷ l ∷ 0 ∷ 0 ∷ 0 ∷ 0 ∷ 0 ∷ []

module _ (h m l : ℕ) where
  words : List ℕ
  words = eight_of h m l

  no_more : bits_from 5 3 words ≡ zeros 320
  unfolding words bits_from digits
  no_more = refl

  behind_192 : drop 192 (bits512 words) ≡ zeros 320
  unfolding bits512
  behind_192 = ap (drop 192) (from_append 3 5 0 words) ∙ drop_at (bits_from 3 0 words) (bits_from 5 3 words) 192 (length_from 3 0 words) ∙ no_more

  -- one number of 192 digits has these bits alone at its top
  top_once : (v w : List ℕ) → Bits v → Bits w → length v ≡ 192 → length w ≡ 192 → at_top v ≡ at_top w → v ≡ w
  top_once v w bv bw lv lw e =
      sym (tops-at_top v bv (omega arith)) ∙ ap₂ tops (lv ∙ sym lw) e ∙ tops-at_top w bw (omega arith)

  pub register_packed : h < 2 ^ 64 → m < 2 ^ 64 → l < 2 ^ 64 → (bits : List ℕ) → Bits bits → length bits ≤ 192 → joined (2 ^ 64) h m l ≡ at_top bits
      → bits512 (eight_of h m l) ≡ padded bits
  unfolding words
  register_packed kh km kl bits are short e =
      let j = 192 - length bits in
      let s : j + 320 ≡ 512 - length bits = omega arith in
      let long : length (bits ++ zeros j) ≡ 192 = length-append bits (zeros j) ∙ omega (arith, length-replicate {A = ℕ} j 0) in
      let front : at_top (take 192 (bits512 words)) ≡ joined (2 ^ 64) h m l
      = sym (window words 0 h m l (lit< tt) kh km kl (across_none h m 0 refl) (across_none m l 0 refl) (across_none l 0 0 refl)) in
      let same : take 192 (bits512 words) ≡ bits ++ zeros j
      = top_once (take 192 (bits512 words)) (bits ++ zeros j) (bits_take 192 (bits512 words) (bits_512 words)) (bits_append bits (zeros j) are (bits_zeros j))
      (length-take-le 192 (bits512 words) (omega (arith, length_512 words))) long (front ∙ e ∙ sym (at_top_zeros bits j)) in
      sym (take-append-drop 192 (bits512 words)) ∙ ap₂ ◌++◌ same behind_192 ∙ append_assoc bits (zeros j) (zeros 320)
      ∙ ap (λ (v : List ℕ). bits ++ v) (replicate-append-replicate j 320 0 ∙ ap zeros s)

-- ---- two words with zeros behind, the second put behind the first and added

side_by_side : (v w : List ℕ) → zip_with bit_xor (v ++ zeros (length w)) (zeros (length v) ++ w) ≡ v ++ w
unfolding zip_with
side_by_side [] w = zeros_sum w
side_by_side (b ∷ v) w = ap₂ ◌∷◌ (xor_zero_r b) (side_by_side v w)

module _ (v w : List ℕ) (room : length v + length w ≤ 512) where
  rest : ℕ
  rest = 512 - (length v + length w)

  rest_long : length (w ++ zeros rest) ≡ 512 - length v
  unfolding rest
  rest_long = length-append w (zeros rest) ∙ omega (arith, length-replicate {A = ℕ} rest 0)

  moved : take 512 (zeros (length v) ++ padded w) ≡ zeros (length v) ++ (w ++ zeros rest)
  unfolding rest
  moved =
      let k = length v in
      let s : 512 - length w ≡ rest + k = omega arith in
      let long : length (zeros k ++ (w ++ zeros rest)) ≡ 512
      = length-append (zeros k) (w ++ zeros rest) ∙ omega (arith, length-replicate {A = ℕ} k 0, rest_long) in
      let cut : zeros k ++ padded w ≡ (zeros k ++ (w ++ zeros rest)) ++ zeros k
      = ap (λ (l : List ℕ). zeros k ++ (w ++ l)) (ap zeros s ∙ sym (replicate-append-replicate rest k 0)) ∙ simp append_assoc in
      ap (take 512) cut ∙ take_at (zeros k ++ (w ++ zeros rest)) (zeros k) 512 long

  pub added_behind : zip_with bit_xor (padded v) (take 512 (replicate (length v) 0 ++ padded w)) ≡ padded (v ++ w)
  unfolding rest
  added_behind =
      let s : rest ≡ 512 - length (v ++ w) = omega (arith, length-append v w) in
      ap₂ (zip_with bit_xor) (ap (λ (n : ℕ). v ++ zeros n) (sym rest_long)) moved ∙ side_by_side v (w ++ zeros rest)
      ∙ sym (append_assoc v w (zeros rest)) ∙ ap (λ (n : ℕ). (v ++ w) ++ zeros n) s
