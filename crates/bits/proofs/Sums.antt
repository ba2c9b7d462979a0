-- Words of one length added bit by bit, without carries: zeros add nothing, what both begin with becomes zeros, and the digits of a sum are added.
-- Assumes nothing.
use mathlib.Core.Path.{◌≡◌, refl, ap₂}
use mathlib.Core.List.{List, [], ◌∷◌, ◌++◌, zip_with}
use Prim.Native.Nat.{ℕ, zero, suc}
use lib.Bits.{bit_xor, xor_self, xor_zero_l}
use lib.ListN.{length, replicate}
use Rattle.bits.specs.Words.{digits}
use Rattle.bits.proofs.Digits.{digit_xor}

pub zeros_sum : (w : List ℕ) → zip_with bit_xor (replicate (length w) 0) w ≡ w
unfolding zip_with
zeros_sum [] = refl
zeros_sum (b ∷ w) = ap₂ ◌∷◌ (xor_zero_l b) (zeros_sum w)

pub shared_sum : (m v w : List ℕ) → zip_with bit_xor (m ++ v) (m ++ w) ≡ replicate (length m) 0 ++ zip_with bit_xor v w
unfolding zip_with
shared_sum [] v w = refl
shared_sum (b ∷ m) v w = ap₂ ◌∷◌ (xor_self b) (shared_sum m v w)

pub digits-xor : (r x y : ℕ) → digits r (bit_xor x y) ≡ zip_with bit_xor (digits r x) (digits r y)
unfolding digits zip_with
digits-xor zero x y = refl
digits-xor (suc r) x y = rw (digit_xor r x y, digits-xor r x y)
