-- Remainders: one step of the register, word after word, what it stays below, the remainder of a sum, and a generator and a remainder that stand higher by k
-- places.
-- Assumes nothing.
use mathlib.Core.Path.{◌≡◌, refl, sym, ap, ap₂, ◌∙◌}
use mathlib.Core.List.{List, [], ◌∷◌, ◌++◌, zip_with}
use mathlib.Core.Logic.{◌≢◌}
use Prim.Native.Nat.{ℕ, zero, suc, ◌+◌, ◌-◌, ◌*◌, ◌/◌, ◌%◌, ◌^◌, ◌≤◌, ◌<◌}
use native.Mathlib.Omega.{arith}
use native.Mathlib.Decide.{ℕ_discrete}
use native.Mathlib.Nat.{mod-lt, div-add-mod', div-eq_of_lt, div-lt_iff_lt-mul, mul-div-mul_right, mul_assoc, zero-mul, zero-div, zero-mod, add-zero, pow-suc, add-sub_of_le}
use lib.Bits.{bit_xor, xor_block, xor_lt, xor_self, xor_comm}
use lib.Dec.{lit<}
use lib.ListN.{length, replicate}
use lib.Pow.{pow_pos, pow-add, high}
use Rattle.ground.proofs.Xors.{digit_left, xor_double, xor_medial}
use Rattle.bits.specs.Words.{Bits}
use Rattle.bits.specs.Remainders.{reduced, step, remainder_from, remainder}
use Rattle.bits.proofs.Digits.{digit_xor}

-- ---- one step of a register of r digits

pub halved : (k x : ℕ) → x * 2 / 2 ^ suc k ≡ x / 2 ^ k
halved k x = rw (pow-suc 2 k) (mul-div-mul_right x (2 ^ k) (lit< tt))

other_digit : (b t : ℕ) → b < 2 → t < 2 → t ≢ b → bit_xor b t ≡ 1
other_digit zero zero hb ht ne = absurd (ne refl)
other_digit zero (suc zero) hb ht ne = refl
other_digit (suc zero) zero hb ht ne = refl
other_digit (suc zero) (suc zero) hb ht ne = absurd (ne refl)
other_digit zero (suc (suc t)) hb ht ne = absurd (omega arith)
other_digit (suc zero) (suc (suc t)) hb ht ne = absurd (omega arith)
other_digit (suc (suc b)) t hb ht ne = absurd (omega arith)

module _ (r x b : ℕ) where
  -- the digit that falls out meets the digit that comes in
  met : bit_xor (b * 2 ^ r) (x * 2) ≡ bit_xor b (x * 2 / 2 ^ r) * 2 ^ r + x * 2 % 2 ^ r
  met =
      sym (ap₂ bit_xor (add-zero (b * 2 ^ r)) (div-add-mod' (x * 2) (2 ^ r)))
      ∙ xor_block r b (x * 2 / 2 ^ r) 0 (x * 2 % 2 ^ r) (pow_pos r) (mod-lt (x * 2) (pow_pos r))

  pub step_same : (g : ℕ) → x * 2 / 2 ^ r ≡ b → step r g x b ≡ x * 2 % 2 ^ r
  unfolding step reduced
  step_same g e =
      let u = x * 2 % 2 ^ r in
      let v : bit_xor (b * 2 ^ r) (x * 2) ≡ u = met ∙ ap (λ (d : ℕ). bit_xor b d * 2 ^ r + u) e ∙ rw xor_self (omega arith) in
      let z : u / 2 ^ r % 2 * g ≡ 0 = rw (div-eq_of_lt (mod-lt (x * 2) (pow_pos r))) (zero-mul g) in
      rw (v, z)

  pub step_other : (n : ℕ) → n < 2 ^ r → b < 2 → x * 2 / 2 ^ r < 2 → x * 2 / 2 ^ r ≢ b → step r (2 ^ r + n) x b ≡ bit_xor (x * 2 % 2 ^ r) n
  unfolding step reduced
  step_other n hn hb ht ne =
      let u = x * 2 % 2 ^ r in
      let hu : u < 2 ^ r = mod-lt (x * 2) (pow_pos r) in
      let v : bit_xor (b * 2 ^ r) (x * 2) ≡ 1 * 2 ^ r + u
      = met ∙ ap (λ (d : ℕ). d * 2 ^ r + u) (other_digit b (x * 2 / 2 ^ r) hb ht ne) in
      let g : 1 * (2 ^ r + n) ≡ 1 * 2 ^ r + n = omega arith in
      rw (v, high 1 r hu, g, xor_block r 1 1 n u hn hu) (omega (arith, xor_comm n u))

step-lt : (r g x b : ℕ) → g / 2 ^ r ≡ 1 → x < 2 ^ r → b < 2 → step r g x b < 2 ^ r
step-lt r g x b degree hx hb = by (ℕ_discrete (x * 2 / 2 ^ r) b)
  where
    by : Dec (x * 2 / 2 ^ r ≡ b) → step r g x b < 2 ^ r
    by (yes e) = rw (step_same r x b g e) (mod-lt (x * 2) (pow_pos r))
    by (no ne) =
        let e : 2 ^ r + g % 2 ^ r ≡ g = omega (arith, rw degree at (div-add-mod' g (2 ^ r))) in
        let t : x * 2 / 2 ^ r < 2 = (div-lt_iff_lt-mul (pow_pos r)).1 (omega arith) in
        let n : g % 2 ^ r < 2 ^ r = mod-lt g (pow_pos r) in
        let s : step r g x b ≡ bit_xor (x * 2 % 2 ^ r) (g % 2 ^ r) = ap (λ (h : ℕ). step r h x b) (sym e) ∙ step_other r x b (g % 2 ^ r) n hb t ne in
        rw s (xor_lt r (x * 2 % 2 ^ r) (g % 2 ^ r) (mod-lt (x * 2) (pow_pos r)) n)

-- ---- remainders

pub from_append : (r g x : ℕ) (v w : List ℕ) → remainder_from r g x (v ++ w) ≡ remainder_from r g (remainder_from r g x v) w
unfolding remainder_from
from_append r g x [] w = refl
from_append r g x (b ∷ v) w = from_append r g (step r g x b) v w

-- the zero register takes in a 0
step_0 : (r g : ℕ) → step r g 0 0 ≡ 0
step_0 r g = step_same r 0 0 g (zero-div (2 ^ r)) ∙ zero-mod (2 ^ r)

-- leading zeros leave the remainder as it is, so the shortened code is the 511-bit code with leading zeros dropped (clause 6.3.5)
pub leading_zeros : (r g m : ℕ) (w : List ℕ) → remainder r g (replicate m 0 ++ w) ≡ remainder r g w
unfolding remainder remainder_from
leading_zeros r g zero w = refl
leading_zeros r g (suc m) w = ap (λ (x : ℕ). remainder_from r g x (replicate m 0 ++ w)) (step_0 r g) ∙ leading_zeros r g m w

pub from_lt : (r g : ℕ) → g / 2 ^ r ≡ 1 → (x : ℕ) → x < 2 ^ r → (m : List ℕ) → Bits m → remainder_from r g x m < 2 ^ r
unfolding remainder_from
from_lt r g degree x hx [] bits = hx
from_lt r g degree x hx (b ∷ m) bits = from_lt r g degree (step r g x b) (step-lt r g x b degree hx bits.0) m bits.1

pub remainder-lt : (r g : ℕ) → g / 2 ^ r ≡ 1 → (m : List ℕ) → Bits m → remainder r g m < 2 ^ r
unfolding remainder
remainder-lt r g degree m bits = from_lt r g degree 0 (pow_pos r) m bits

xor_scaled : (k a b : ℕ) → bit_xor (a * 2 ^ k) (b * 2 ^ k) ≡ bit_xor a b * 2 ^ k
xor_scaled k a b =
    sym (ap₂ bit_xor (add-zero (a * 2 ^ k)) (add-zero (b * 2 ^ k))) ∙ xor_block k a b 0 0 (pow_pos k) (pow_pos k) ∙ add-zero (bit_xor a b * 2 ^ k)

-- ---- registers and words of one length, added: what the register holds then is added

module _ (r g : ℕ) where
  reduced-xor : (u v : ℕ) → reduced r g (bit_xor u v) ≡ bit_xor (reduced r g u) (reduced r g v)
  unfolding reduced
  reduced-xor u v =
      rw (digit_xor r u v, digit_left (u / 2 ^ r) (v / 2 ^ r) g) (xor_medial (u / 2 ^ r % 2 * g) (v / 2 ^ r % 2 * g) u v)

  step-xor : (x y b c : ℕ) → step r g (bit_xor x y) (bit_xor b c) ≡ bit_xor (step r g x b) (step r g y c)
  unfolding step
  step-xor x y b c =
      let e : bit_xor (bit_xor b c * 2 ^ r) (bit_xor x y * 2) ≡ bit_xor (bit_xor (b * 2 ^ r) (x * 2)) (bit_xor (c * 2 ^ r) (y * 2))
      = rw (← (xor_scaled r b c), xor_double x y) (xor_medial (b * 2 ^ r) (c * 2 ^ r) (x * 2) (y * 2)) in
      rw e (reduced-xor (bit_xor (b * 2 ^ r) (x * 2)) (bit_xor (c * 2 ^ r) (y * 2)))

  pub from_sum : (v w : List ℕ) (x y : ℕ) → length v ≡ length w
      → remainder_from r g (bit_xor x y) (zip_with bit_xor v w) ≡ bit_xor (remainder_from r g x v) (remainder_from r g y w)
  unfolding remainder_from zip_with
  from_sum [] [] x y e = refl
  from_sum [] (c ∷ w) x y e = absurd (omega arith)
  from_sum (b ∷ v) [] x y e = absurd (omega arith)
  from_sum (b ∷ v) (c ∷ w) x y e =
      ap (λ (z : ℕ). remainder_from r g z (zip_with bit_xor v w)) (step-xor x y b c) ∙ from_sum v w (step r g x b) (step r g y c) (omega arith)

-- ---- k places higher

module _ (r k g : ℕ) where
  step_scaled : (x b : ℕ) → step (r + k) (g * 2 ^ k) (x * 2 ^ k) b ≡ step r g x b * 2 ^ k
  unfolding step reduced
  step_scaled x b =
      let v = bit_xor (b * 2 ^ r) (x * 2) in
      let two : x * 2 ^ k * 2 ≡ x * 2 * 2 ^ k = omega arith in
      let e : bit_xor (b * 2 ^ (r + k)) (x * 2 ^ k * 2) ≡ v * 2 ^ k
      = rw (pow-add, ← (mul_assoc b (2 ^ r) (2 ^ k)), two) (xor_scaled k (b * 2 ^ r) (x * 2)) in
      let d : v * 2 ^ k / 2 ^ (r + k) ≡ v / 2 ^ r = rw pow-add (mul-div-mul_right v (2 ^ r) (pow_pos k)) in
      rw (e, d, ← (mul_assoc (v / 2 ^ r % 2) g (2 ^ k))) (xor_scaled k (v / 2 ^ r % 2 * g) v)

  from_scaled : (x : ℕ) (m : List ℕ) → remainder_from (r + k) (g * 2 ^ k) (x * 2 ^ k) m ≡ remainder_from r g x m * 2 ^ k
  unfolding remainder_from
  from_scaled x [] = refl
  from_scaled x (b ∷ m) = rw (step_scaled x b) (from_scaled (step r g x b) m)

pub remainder_scaled : (r g : ℕ) → r ≤ 192 → (m : List ℕ) → remainder 192 (g * 2 ^ (192 - r)) m ≡ remainder r g m * 2 ^ (192 - r)
unfolding remainder
remainder_scaled r g h m =
    ap (λ (w : ℕ). remainder_from w (g * 2 ^ (192 - r)) 0 m) (sym (add-sub_of_le h)) ∙ rw zero-mul at (from_scaled r (192 - r) g 0 m)
