-- Powers of an element.
-- Assumes nothing.
use mathlib.Core.Path.{◌≡◌, refl, sym, ◌∙◌}
use mathlib.Core.Logic.{◌≢◌}
use Prim.Native.Nat.{ℕ, zero, suc, ◌+◌, ◌*◌}
use native.Mathlib.Nat.{zero-add as ℕ-zero-add, suc-add, mul-zero as ℕ-mul-zero, mul-suc}
use Rattle.algebra.proofs.Fields.{Field2, ring, mul_comm, mul_assoc, one-mul, factor_zero}

module _ (F : Field2) where
  open F use {Element, zero as 𝟘, one as 𝟙, mul as ◌⊗◌}

  infixl 70 ◌⊗◌
  unfoldable pub pow : Element → ℕ → Element
  pow x zero = 𝟙
  pow x (suc n) = x ⊗ pow x n

  pub pow-zero : (x : Element) → pow x zero ≡ 𝟙
  unfolding pow
  pow-zero x = refl

  pub pow-suc : (x : Element) (n : ℕ) → pow x (suc n) ≡ x ⊗ pow x n
  unfolding pow
  pow-suc x n = refl

  ruleset pows = (ring, pow-zero, pow-suc)

  pub pow-add : (x : Element) (a b : ℕ) → pow x (a + b) ≡ pow x a ⊗ pow x b
  pow-add x zero b = simp (ℕ-zero-add, pow-zero, one-mul)
  pow-add x (suc a) b = simp (suc-add, pow-suc, pow-add x a b, mul_assoc)

  pub pow-mul : (x : Element) (a b : ℕ) → pow (pow x a) b ≡ pow x (a * b)
  pow-mul x a zero = simp (ℕ-mul-zero, pow-zero)
  pow-mul x a (suc b) = simp (mul-suc, pow-suc, pow-add, pow-mul x a b) (mul_comm F _ _)

  pub pow_square : (x : Element) (n : ℕ) → pow (x ⊗ x) n ≡ pow x n ⊗ pow x n
  pow_square x zero = simp pows
  pow_square x (suc n) = simp (pow_square x n, pows)

  pub pow-ne-zero : (x : Element) (n : ℕ) → x ≢ 𝟘 → pow x n ≢ 𝟘
  pow-ne-zero x zero h e = F.one-ne-zero (sym (pow-zero x) ∙ e)
  pow-ne-zero x (suc n) h e = pow-ne-zero x n h (factor_zero F x (pow x n) h (sym (pow-suc x n) ∙ e))
