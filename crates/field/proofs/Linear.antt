-- The basis test: two additive functions that agree at the powers of 2 agree, and antt can compute whether they do.
-- Assumes nothing.
use mathlib.Core.Path.{◌≡◌, sym, ap, ap₂, ◌∙◌, subst}
use Prim.Native.Nat.{ℕ, zero, suc, ◌*◌, ◌/◌, ◌%◌, ◌^◌, ◌<◌, suc-le-suc}
use native.Mathlib.Nat.{zero-lt-suc, pow-suc, div-lt_iff_lt-mul}
use lib.Arith.{lt-one}
use lib.Bits.{bit_xor, xor_self}
use lib.Dec.{T, eqb}
use Rattle.ground.proofs.Tests.{all, all_at, all_equal}
use Rattle.ground.proofs.Xors.{by_digit, xor_cancel, xor_double, xor_split}

abbrev pub Additive : (ℕ → ℕ) → Type 0
Additive f = (a b : ℕ) → f (bit_xor a b) ≡ bit_xor (f a) (f b)

pub additive_0 : (f : ℕ → ℕ) → Additive f → f 0 ≡ 0
additive_0 f h = sym (xor_cancel (f 0) (f 0)) ∙ ap (bit_xor (f 0)) (sym (h 0 0)) ∙ xor_self (f 0)

basis : (k : ℕ) (f g : ℕ → ℕ) → Additive f → Additive g → ((j : ℕ) → j < k → f (2 ^ j) ≡ g (2 ^ j)) → (a : ℕ) → a < 2 ^ k → f a ≡ g a
basis zero f g hf hg e a h = subst (λ (x : ℕ). f x ≡ g x) (sym (lt-one h)) (additive_0 f hf ∙ sym (additive_0 g hg))
basis (suc k) f g hf hg e a h =
    ap f (sym (xor_split a)) ∙ hf (a / 2 * 2) (a % 2)
    ∙ ap₂ bit_xor
    (basis k (λ (x : ℕ). f (x * 2)) (λ (x : ℕ). g (x * 2)) (doubled f hf) (doubled g hg)
    (λ j l. subst (λ (x : ℕ). f x ≡ g x) (pow-suc 2 j) (e (suc j) (suc-le-suc l))) (a / 2) half)
    (by_digit (λ (x : ℕ). f x ≡ g x) (additive_0 f hf ∙ sym (additive_0 g hg)) (e 0 (zero-lt-suc k)) a)
    ∙ sym (hg (a / 2 * 2) (a % 2)) ∙ ap g (xor_split a)
  where
    half : a / 2 < 2 ^ k
    half = (div-lt_iff_lt-mul (zero-lt-suc 1)).1 (subst (λ (x : ℕ). a < x) (pow-suc 2 k) h)

    doubled : (f : ℕ → ℕ) → Additive f → Additive (λ (x : ℕ). f (x * 2))
    doubled f hf x y = ap f (xor_double x y) ∙ hf (x * 2) (y * 2)

-- the test for functions of one, two and three arguments, additive in each
pub basis₁ : (k : ℕ) (f g : ℕ → ℕ) → Additive f → Additive g → T (all k (λ i. eqb (f (2 ^ i)) (g (2 ^ i)))) → (a : ℕ) → a < 2 ^ k → f a ≡ g a
basis₁ k f g hf hg t =
    basis k f g hf hg (all_equal k (λ i. f (2 ^ i)) (λ i. g (2 ^ i)) t)

abbrev pub Additive₂ : (ℕ → ℕ → ℕ) → Type 0
Additive₂ f = ((b : ℕ) → Additive (λ (a : ℕ). f a b)) × ((a : ℕ) → Additive (f a))

pub basis₂ : (k : ℕ) (f g : ℕ → ℕ → ℕ) → Additive₂ f → Additive₂ g
    → T (all k (λ i. all k (λ j. eqb (f (2 ^ i) (2 ^ j)) (g (2 ^ i) (2 ^ j))))) → (a b : ℕ) → a < 2 ^ k → b < 2 ^ k → f a b ≡ g a b
basis₂ k f g hf hg t a b ha hb =
    basis k (λ (x : ℕ). f x b) (λ (x : ℕ). g x b) (hf.0 b) (hg.0 b)
    (λ i hi. basis₁ k (f (2 ^ i)) (g (2 ^ i)) (hf.1 (2 ^ i)) (hg.1 (2 ^ i))
    (all_at k (λ m. all k (λ n. eqb (f (2 ^ m) (2 ^ n)) (g (2 ^ m) (2 ^ n)))) t i hi) b hb)
    a ha

abbrev pub Additive₃ : (ℕ → ℕ → ℕ → ℕ) → Type 0
Additive₃ f = ((b c : ℕ) → Additive (λ (a : ℕ). f a b c)) × ((a : ℕ) → Additive₂ (f a))

pub basis₃ : (k : ℕ) (f g : ℕ → ℕ → ℕ → ℕ) → Additive₃ f → Additive₃ g
    → T (all k (λ h. all k (λ i. all k (λ j. eqb (f (2 ^ h) (2 ^ i) (2 ^ j)) (g (2 ^ h) (2 ^ i) (2 ^ j))))))
    → (a b c : ℕ) → a < 2 ^ k → b < 2 ^ k → c < 2 ^ k → f a b c ≡ g a b c
basis₃ k f g hf hg t a b c ha hb hc =
    basis k (λ (x : ℕ). f x b c) (λ (x : ℕ). g x b c) (hf.0 b c) (hg.0 b c)
    (λ h hh. basis₂ k (f (2 ^ h)) (g (2 ^ h)) (hf.1 (2 ^ h)) (hg.1 (2 ^ h))
    (all_at k (λ l. all k (λ i. all k (λ j. eqb (f (2 ^ l) (2 ^ i) (2 ^ j)) (g (2 ^ l) (2 ^ i) (2 ^ j))))) t h hh) b c hb hc)
    a ha
