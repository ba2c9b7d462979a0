-- Every codeword has the roots of the generator: Horner's rule goes along with the steps of the register.
-- Assumes nothing.
use mathlib.Core.Path.{◌≡◌, sym, ap, ◌∙◌}
use mathlib.Core.List.{List, [], ◌∷◌}
use Prim.Native.Nat.{ℕ, zero, suc, ◌-◌, ◌*◌, ◌/◌, ◌%◌, ◌^◌, ◌≤◌, ◌<◌}
use native.Mathlib.Nat.{zero-mul, one-mul, mul-one, mul_assoc, pow-zero, pow-suc, zero-div, div-one, mul-mod_left, mod-eq_of_lt}
use lib.Bits.{bit_xor}
use lib.ListN.{length, take}
use Rattle.ground.proofs.Xors.{by_digit}
use Rattle.algebra.proofs.Fields.{ring, add_self, add-zero, zero-add, add_comm, add_of_eq}
use Rattle.algebra.proofs.Powers.{pow, pow-zero as pow_zero', pow-suc as pow_suc'}
use Rattle.field.proofs.Elements.{gf512, element_of, of_0}
use Rattle.field.proofs.Values.{a, value, value-nil, value-cons, value-append, value_added}
use Rattle.bits.specs.Words.{Bits, digits}
use Rattle.bits.specs.Remainders.{reduced, step, remainder_from, remainder}
use Rattle.bch.specs.Codes.{Code, encoded, Codeword}
use Rattle.bch.specs.Held.{Rooted}
use Rattle.bits.proofs.Digits.{bits_take, length_digits, digit_xor}
use Rattle.bits.proofs.Sums.{digits-xor}
use Rattle.bits.proofs.Remainders.{halved}
open gf512 use {Element, zero as 𝟘, add as ◌⊕◌, mul as ◌⊗◌}

infixl 60 ◌⊕◌
infixl 70 ◌⊗◌
-- ---- the value of a number's digits

module _ (x : Element) where
  -- the polynomial of the r low digits of n, at x
  abbrev poly : ℕ → ℕ → Element
  poly r n = value x (digits r n)

  poly_none : (n : ℕ) → poly zero n ≡ 𝟘
  unfolding digits
  poly_none n = value-nil x

  -- the highest digit apart
  poly-suc : (r n : ℕ) → poly (suc r) n ≡ element_of (n / 2 ^ r % 2) ⊗ pow gf512 x r ⊕ poly r n
  unfolding digits
  poly-suc r n = rw (value-cons, length_digits r n)

  poly-xor : (r m n : ℕ) → poly r (bit_xor m n) ≡ poly r m ⊕ poly r n
  poly-xor r m n = rw (digits-xor r m n, value_added x _ _ (length_digits r m ∙ sym (length_digits r n)))

  poly-zero : (r : ℕ) → poly r 0 ≡ 𝟘
  poly-zero r = poly-xor r 0 0 ∙ add_self gf512 (poly r 0)

  -- a digit 0 behind the others
  poly_double : (r n : ℕ) → poly (suc r) (n * 2) ≡ poly r n ⊗ x
  poly_double zero n = rw (poly-suc zero, poly_none (n * 2), poly_none n, pow-zero, div-one, mul-mod_left, of_0) (simp ring)
  poly_double (suc r) n = rw (poly-suc (suc r), poly_double r n, halved, poly-suc r n, pow_suc') (simp ring)

  -- one digit before r digits 0
  poly_top : (r b : ℕ) → poly (suc r) (b * 2 ^ r) ≡ element_of (b % 2) ⊗ pow gf512 x r
  poly_top zero b = rw (poly-suc zero, poly_none, mul-one, div-one) (add-zero gf512 _)
  poly_top (suc r) b = rw (pow-suc, ← mul_assoc, poly_double, poly_top r b, pow_suc') (simp ring)

  -- ---- the register, where x is a root of the generator g of degree r

  module _ (r g : ℕ) (degree : g / 2 ^ r ≡ 1) (root : poly (suc r) g ≡ 𝟘) where
    poly_multiple : (n : ℕ) → poly (suc r) (n % 2 * g) ≡ 𝟘
    poly_multiple = by_digit (λ (d : ℕ). poly (suc r) (d * g) ≡ 𝟘) (rw zero-mul (poly-zero (suc r))) (rw one-mul root)

    struck_digit : (n : ℕ) → bit_xor (n % 2 * g / 2 ^ r % 2) (n % 2) ≡ 0
    struck_digit = by_digit (λ (d : ℕ). bit_xor (d * g / 2 ^ r % 2) d ≡ 0) (rw (zero-mul, zero-div)) (rw (one-mul, degree))

    reduced_digit : (v : ℕ) → reduced r g v / 2 ^ r % 2 ≡ 0
    unfolding reduced
    reduced_digit v = digit_xor r _ v ∙ struck_digit (v / 2 ^ r)

    reduced_low : (v : ℕ) → poly (suc r) (reduced r g v) ≡ poly r (reduced r g v)
    reduced_low v = rw (poly-suc, reduced_digit, of_0) (simp ring)

    reduced_same : (v : ℕ) → poly (suc r) (reduced r g v) ≡ poly (suc r) v
    unfolding reduced
    reduced_same v = rw (poly-xor, poly_multiple) (zero-add gf512 _)

    poly-reduced : (v : ℕ) → poly r (reduced r g v) ≡ poly (suc r) v
    poly-reduced v = sym (reduced_low v) ∙ reduced_same v

    poly-step : (s b : ℕ) → b < 2 → poly r (step r g s b) ≡ poly r s ⊗ x ⊕ element_of b ⊗ pow gf512 x r
    unfolding step
    poly-step s b h = rw (poly-reduced, poly-xor, poly_top, poly_double, mod-eq_of_lt h) (add_comm gf512 _ _)

    value-remainder_from : (s : ℕ) (m : List ℕ) → Bits m
        → poly r (remainder_from r g s m) ≡ poly r s ⊗ pow gf512 x (length m) ⊕ value x m ⊗ pow gf512 x r
    unfolding remainder_from
    value-remainder_from s [] h = simp (pow_zero', value-nil, ring)
    value-remainder_from s (b ∷ m) h =
        rw (value-remainder_from (step r g s b) m h.1, poly-step s b h.0, value-cons, pow_suc' gf512 x (length m)) (simp ring)

    pub value-remainder : (m : List ℕ) → Bits m → value x m ⊗ pow gf512 x r ≡ value x (digits r (remainder r g m))
    unfolding remainder
    value-remainder m h = sym (value-remainder_from 0 m h ∙ rw (poly-zero r) (simp ring))

-- ---- codewords

module _ {c : Code} (rooted : Rooted c) (j : ℕ) (low : 0 < j) (high : j ≤ c.t * 2) where
  encoded-zero : (m : List ℕ) → Bits m → value (pow gf512 a j) (encoded c m) ≡ 𝟘
  unfolding encoded
  encoded-zero m h =
      rw (value-append, length_digits) (add_of_eq gf512 (value-remainder _ (c.n - c.k) c.generator rooted.degree (rooted.roots j low high) m h))

  pub codeword_zero : {v : List ℕ} → Codeword c v → value (pow gf512 a j) v ≡ 𝟘
  codeword_zero {v} w = ap (value (pow gf512 a j)) w.made ∙ encoded-zero (take c.k v) (bits_take c.k v w.bits)
