-- The remainder of a whole word: it is zero exactly for a codeword, and at the generator's roots it has the word's values.
-- Assumes nothing.
use mathlib.Core.Path.{◌≡◌, sym, ap, ap₂, ◌∙◌}
use mathlib.Core.List.{List, ◌++◌, zip_with}
use Prim.Native.Nat.{ℕ, ◌-◌, ◌*◌, ◌^◌, ◌≤◌, ◌<◌}
use native.Mathlib.Omega.{arith}
use lib.Bits.{bit_xor, xor_self, xor_zero_r}
use lib.ListN.{length, take, drop, length-drop, take-append-drop}
use lib.Seq.{length-take-le, drop_at}
use Rattle.ground.proofs.Xors.{xor_cancel}
use Rattle.algebra.proofs.Powers.{pow}
use Rattle.field.proofs.Elements.{gf512}
use Rattle.field.proofs.Values.{a, value, value-append, value_added}
use Rattle.bits.specs.Words.{Bits, digits}
use Rattle.bits.specs.Remainders.{remainder}
use Rattle.bch.specs.Codes.{Codeword, encoded}
use Rattle.bch.specs.Registers.{tops, at_top}
use Rattle.bch.specs.Held.{Sound, code_of}
use Rattle.decoder.specs.Candidates.{leftover}
use Rattle.bch.specs.declared.code.Held.{Held}
use Rattle.bits.proofs.Digits.{bits_take, bits_drop, length_digits}
use Rattle.bits.proofs.Remainders.{remainder-lt}
use Rattle.bch.proofs.Sounds.{scaled}
use Rattle.bch.proofs.Tops.{digits-tops, at_top-digits, tops-at_top, tops-xor}
use Rattle.bch.proofs.Roots.{value-remainder}

module _ {h : Held} (sound : Sound h) (w : List ℕ) (bits : Bits w) (long : length w ≡ h.n) where
  -- the information, the bits behind it, and the remainder that should stand there
  information : List ℕ
  information = take h.k w

  behind : List ℕ
  behind = drop h.k w

  rest : ℕ
  rest = remainder (h.n - h.k) (code_of h).generator information

  expected : List ℕ
  expected = digits (h.n - h.k) rest

  information_long : length information ≡ h.k
  unfolding information
  information_long = length-take-le h.k w (omega (arith, sound.rooted.order))

  behind_long : length behind ≡ h.n - h.k
  unfolding behind
  behind_long = length-drop h.k w ∙ ap (λ (n : ℕ). n - h.k) long

  behind_bits : Bits behind
  unfolding behind
  behind_bits = bits_drop h.k w bits

  rest_lt : rest < 2 ^ (h.n - h.k)
  unfolding rest information
  rest_lt = remainder-lt (h.n - h.k) (code_of h).generator sound.rooted.degree information (bits_take h.k w bits)

  left_is : leftover h w ≡ bit_xor (rest * 2 ^ (192 - (h.n - h.k))) (at_top behind)
  unfolding leftover rest behind information
  left_is = ap (λ (x : ℕ). bit_xor x (at_top (drop h.k w))) (scaled sound (take h.k w))

  tops-behind : tops (h.n - h.k) (at_top behind) ≡ behind
  tops-behind =
      ap (λ (n : ℕ). tops n (at_top behind)) (sym behind_long)
      ∙ tops-at_top behind behind_bits (let e = behind_long in omega (arith, sound.narrow))

  tops-expected : tops (h.n - h.k) (rest * 2 ^ (192 - (h.n - h.k))) ≡ expected
  unfolding expected
  tops-expected = sym (digits-tops (h.n - h.k) rest sound.narrow)

  -- ---- zero, and codewords

  made_of : behind ≡ expected → w ≡ encoded (code_of h) (take h.k w)
  unfolding encoded expected rest behind information
  made_of e = sym (take-append-drop h.k w) ∙ ap (λ (l : List ℕ). take h.k w ++ l) e

  pub codeword_of_zero : leftover h w ≡ 0 → Codeword (code_of h) w
  codeword_of_zero z =
      let same : rest * 2 ^ (192 - (h.n - h.k)) ≡ at_top behind
      = sym (xor_zero_r (rest * 2 ^ (192 - (h.n - h.k)))) ∙ ap (bit_xor (rest * 2 ^ (192 - (h.n - h.k)))) (sym z ∙ left_is)
      ∙ xor_cancel (rest * 2 ^ (192 - (h.n - h.k))) (at_top behind) in
      record {
        long = long;
        bits = bits;
        made = made_of (sym tops-behind ∙ ap (tops (h.n - h.k)) (sym same) ∙ tops-expected);
      }

  behind_of : Codeword (code_of h) w → behind ≡ expected
  unfolding encoded expected rest behind information
  behind_of c = ap (drop h.k) c.made ∙ drop_at (take h.k w) expected h.k information_long

  pub zero_of_codeword : Codeword (code_of h) w → leftover h w ≡ 0
  unfolding expected
  zero_of_codeword c =
      left_is
      ∙ ap (bit_xor (rest * 2 ^ (192 - (h.n - h.k)))) (ap at_top (behind_of c) ∙ at_top-digits (h.n - h.k) rest sound.narrow rest_lt)
      ∙ xor_self (rest * 2 ^ (192 - (h.n - h.k)))

  -- ---- values

  tops_left : tops (h.n - h.k) (leftover h w) ≡ zip_with bit_xor expected behind
  tops_left = ap (tops (h.n - h.k)) left_is ∙ tops-xor (h.n - h.k) _ _ ∙ ap₂ (zip_with bit_xor) tops-expected tops-behind

  pub value_left : (j : ℕ) → 0 < j → j ≤ h.t * 2 → value (pow gf512 a j) (tops (h.n - h.k) (leftover h w)) ≡ value (pow gf512 a j) w
  unfolding expected rest information behind
  value_left j low high =
      let x = pow gf512 a j in
      ap (value x) tops_left ∙ value_added x expected behind (length_digits (h.n - h.k) rest ∙ sym behind_long)
      ∙ ap (λ u. gf512.add u (value x behind))
      (sym (value-remainder x (h.n - h.k) (code_of h).generator sound.rooted.degree
      (sound.rooted.roots j low high) information (bits_take h.k w bits)))
      ∙ sym (ap (value x) (sym (take-append-drop h.k w)) ∙ value-append x (take h.k w) (drop h.k w)
      ∙ ap (λ (n : ℕ). gf512.add (gf512.mul (value x (take h.k w)) (pow gf512 x n)) (value x (drop h.k w))) behind_long)
