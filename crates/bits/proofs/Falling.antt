-- A register takes in bits: its highest digits fall out and count as bits of the word. And the remainder of one run of bits behind another.
-- Assumes nothing.
use mathlib.Core.Path.{◌≡◌, refl, sym, ap, ap₂, ◌∙◌}
use mathlib.Core.List.{List, ◌++◌, zip_with}
use Prim.Native.Nat.{ℕ, zero, suc, ◌+◌, ◌*◌, ◌/◌, ◌%◌, ◌^◌, ◌<◌}
use native.Mathlib.Omega.{arith}
use native.Mathlib.Nat.{div-add-mod', mul-add-mod_self_right, mul-mod_left, mod-eq_of_lt, mul_assoc, mul-one, pow-suc, suc-add, add_comm}
use native.Mathlib.Numerals.{add-one, one-add}
use lib.Bits.{bit_xor, xor_self, xor_zero_r}
use lib.ListN.{length, replicate, length-replicate}
use lib.Pow.{pow-add, shl_lt, shl-shr, shr-shr, field}
use Rattle.ground.proofs.Xors.{xor_cancel}
use Rattle.bits.specs.Words.{digits}
use Rattle.bits.specs.Remainders.{remainder_from, remainder}
use Rattle.bits.proofs.Digits.{length_digits, digits_last}
use Rattle.bits.proofs.Shifts.{digits-zero}
use Rattle.bits.proofs.Sums.{zeros_sum, digits-xor}
use Rattle.bits.proofs.Remainders.{halved, step_same, from_append, from_sum}

pub mod_times : (n q p : ℕ) → n % p * q % p ≡ n * q % p
mod_times n q p =
    let e : n / p * q * p + n % p * q ≡ n * q = omega (arith, ap (λ (k : ℕ). k * q) (div-add-mod' n p)) in
    sym (mul-add-mod_self_right (n / p * q) p (n % p * q)) ∙ ap (λ (k : ℕ). k % p) e

-- after m digits have fallen out
next_out : (m k x : ℕ) → x * 2 ^ m % 2 ^ (suc m + k) * 2 / 2 ^ (suc m + k) ≡ x / 2 ^ k % 2
next_out m k x =
    let y = x * 2 ^ m in
    rw (suc-add m k)
    (halved (m + k) (y % 2 ^ suc (m + k)) ∙ rw one-add at (field y 1 (m + k))
    ∙ ap (λ (n : ℕ). n % 2) (sym (shr-shr y m k) ∙ ap (λ (n : ℕ). n / 2 ^ k) (shl-shr x m)))

module _ (r g : ℕ) where
  -- a register that takes in its own highest digits moves up
  fallen : (m k x : ℕ) → m + k ≡ r → x < 2 ^ r → remainder_from r g x (digits m (x / 2 ^ k)) ≡ x * 2 ^ m % 2 ^ r
  unfolding remainder_from digits
  fallen zero k x e h = rw (mul-one x) (sym (mod-eq_of_lt h))
  fallen (suc m) k x e h =
      let u = x * 2 ^ m % 2 ^ r in
      let half : x / 2 ^ k / 2 ≡ x / 2 ^ suc k = rw add-one at (shr-shr x k 1) in
      let out : u * 2 / 2 ^ r ≡ x / 2 ^ k % 2 = ap (λ (n : ℕ). x * 2 ^ m % 2 ^ n * 2 / 2 ^ n) (sym e) ∙ next_out m k x in
      let up : u * 2 % 2 ^ r ≡ x * 2 ^ suc m % 2 ^ r = mod_times (x * 2 ^ m) 2 (2 ^ r) ∙ rw (pow-suc 2 m, ← (mul_assoc x (2 ^ m) 2)) in
      rw (digits_last m (x / 2 ^ k), from_append, half, fallen m (suc k) x (omega arith) h) (step_same r u (x / 2 ^ k % 2) g out ∙ up)

  -- the register x takes in m bits: its highest m digits are added to them
  pub taken : (m k x b : ℕ) → m + k ≡ r → x < 2 ^ r
      → remainder_from r g x (digits m b) ≡ bit_xor (x * 2 ^ m % 2 ^ r) (remainder r g (digits m (bit_xor (x / 2 ^ k) b)))
  unfolding remainder
  taken m k x b e h =
      let t = x / 2 ^ k in
      let z = bit_xor t b in
      let s : digits m b ≡ zip_with bit_xor (digits m t) (digits m z) = ap (digits m) (sym (xor_cancel t b)) ∙ digits-xor m t z in
      let l : length (digits m t) ≡ length (digits m z) = length_digits m t ∙ sym (length_digits m z) in
      ap₂ (remainder_from r g) (sym (xor_zero_r x)) s ∙ from_sum r g (digits m t) (digits m z) x 0 l
      ∙ ap (λ (n : ℕ). bit_xor n (remainder_from r g 0 (digits m z))) (fallen m k x e h)

  -- the register x takes in m zeros
  pub zeros_taken : (m k x : ℕ) → m + k ≡ r → x < 2 ^ r
      → remainder_from r g x (replicate m 0) ≡ bit_xor (x * 2 ^ m % 2 ^ r) (remainder r g (digits m (x / 2 ^ k)))
  zeros_taken m k x e h =
      ap (remainder_from r g x) (sym (digits-zero m)) ∙ taken m k x 0 e h
      ∙ ap (λ (n : ℕ). bit_xor (x * 2 ^ m % 2 ^ r) (remainder r g (digits m n))) (xor_zero_r (x / 2 ^ k))

  -- of b alone at the top nothing is left when its digits are taken in
  top_gone : (m k b : ℕ) → m + k ≡ r → b < 2 ^ m → remainder_from r g (b * 2 ^ k) (digits m b) ≡ 0
  top_gone m k b e h =
      let low : b * 2 ^ k < 2 ^ r = rw e at (shl_lt m k h) in
      let up : b * 2 ^ k * 2 ^ m ≡ b * 2 ^ r
      = mul_assoc b (2 ^ k) (2 ^ m) ∙ ap (λ (n : ℕ). b * n) (sym (pow-add 2 k m) ∙ ap (λ (n : ℕ). 2 ^ n) (add_comm k m ∙ e)) in
      ap (λ (n : ℕ). remainder_from r g (b * 2 ^ k) (digits m n)) (sym (shl-shr b k)) ∙ fallen m k (b * 2 ^ k) e low
      ∙ ap (λ (n : ℕ). n % 2 ^ r) up ∙ mul-mod_left b (2 ^ r)

  -- m bits taken in, or added at the top before m zeros
  pub at_top_first : (m k x b : ℕ) → m + k ≡ r → b < 2 ^ m → remainder_from r g x (digits m b) ≡ remainder_from r g (bit_xor x (b * 2 ^ k)) (replicate m 0)
  at_top_first m k x b e h =
      let y = b * 2 ^ k in
      let v = digits m b in
      let none : replicate m 0 ≡ zip_with bit_xor v v = sym (digits-zero m) ∙ ap (digits m) (sym (xor_self b)) ∙ digits-xor m b b in
      sym (ap (remainder_from r g (bit_xor x y)) none ∙ from_sum r g v v x y refl
      ∙ ap (bit_xor (remainder_from r g x v)) (top_gone m k b e h) ∙ xor_zero_r (remainder_from r g x v))

  -- the remainder of v ++ w is that of v with zeros behind it and that of w, added
  pub apart : (v w : List ℕ) → remainder r g (v ++ w) ≡ bit_xor (remainder r g (v ++ replicate (length w) 0)) (remainder r g w)
  unfolding remainder
  apart v w =
      let x = remainder_from r g 0 v in
      let none : List ℕ = replicate (length w) 0 in
      from_append r g 0 v w ∙ ap₂ (remainder_from r g) (sym (xor_zero_r x)) (sym (zeros_sum w))
      ∙ from_sum r g none w x 0 (length-replicate (length w) 0) ∙ ap (λ (n : ℕ). bit_xor n (remainder_from r g 0 w)) (sym (from_append r g 0 v none))
