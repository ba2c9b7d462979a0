-- The zeros of one machine word, taken in from the lowest digit on.
-- Assumes nothing.
use mathlib.Core.Path.{◌≡◌, refl, sym, ap, ◌∙◌, subst}
use mathlib.Core.List.{List}
use Prim.Native.Nat.{ℕ, zero, suc, ◌+◌, ◌-◌, ◌*◌, ◌/◌, ◌%◌, ◌^◌, ◌≤◌, ◌<◌}
use native.Mathlib.Nat.{div-eq_of_lt, div-one, zero-div, lt_of_lt_of_le, div-lt_iff_lt-mul, zero-lt-suc, pow-suc}
use native.Mathlib.Decide.{dec_lt}
use native.Mathlib.Omega.{arith}
use lib.Count.{count_trailing_zeros, under}
use lib.ListN.{get_or}
use lib.Pow.{shr-shr, pow_mono}
use Rattle.planes.specs.Lanes.{bit_of}
use Rattle.decoder.specs.Marks.{root_at, Placed, Below, HasRow}
use Rattle.decoder.proofs.Marking.{placed_skip}

-- ---- the lowest 1 digit

bit_0 : (x : ℕ) → bit_of x 0 ≡ x % 2
unfolding bit_of
bit_0 x = ap (λ (y : ℕ). y % 2) (div-one x)

bit_shifted : (x l i : ℕ) → bit_of (x / 2 ^ l) i ≡ bit_of x (l + i)
unfolding bit_of
bit_shifted x l i = ap (λ (y : ℕ). y % 2) (shr-shr x l i)

bit_half : (x i : ℕ) → bit_of (x / 2) i ≡ bit_of x (suc i)
bit_half x i = bit_shifted x 1 i ∙ (let e : 1 + i ≡ suc i = omega arith in ap (bit_of x) e)

-- r zeros, and then a 1
abbrev Lowest : ℕ → ℕ → Type 0
Lowest x r = (bit_of x r ≡ 1) × ((i : ℕ) → i < r → bit_of x i ≡ 0)

lowest_even : (x t : ℕ) → x % 2 ≡ 0 → Lowest (x / 2) t → Lowest x (suc t)
lowest_even x t e h = (sym (bit_half x t) ∙ h.0, none)
  where
    none : (i : ℕ) → i < suc t → bit_of x i ≡ 0
    none zero k = bit_0 x ∙ e
    none (suc i) k = sym (bit_half x i) ∙ h.1 i (omega arith)

lowest_odd : (x : ℕ) → x % 2 ≡ 1 → Lowest x 0
lowest_odd x e = (bit_0 x ∙ e, λ i k. absurd (omega arith))

trail_step : (x t r : ℕ) → 0 < x → x % 2 ≡ r → (0 < x / 2 → Lowest (x / 2) t) → Lowest x (under r t)
trail_step x t zero p e h = lowest_even x t e (h (omega arith))
trail_step x t (suc zero) p e h = lowest_odd x e
trail_step x t (suc (suc r)) p e h = absurd (omega arith)

trail : (d x : ℕ) → 0 < x → x < 2 ^ d → Lowest x (count_trailing_zeros d x)
unfolding count_trailing_zeros
trail zero x p h = absurd (omega arith)
trail (suc d) x p h =
    trail_step x (count_trailing_zeros d (x / 2)) (x % 2) p refl
    (λ k. trail d (x / 2) k ((div-lt_iff_lt-mul (zero-lt-suc 1)).1 (subst (λ (y : ℕ). x < y) (pow-suc 2 d) h)))

bit_past : (x l : ℕ) → x < 2 ^ 64 → 64 ≤ l → bit_of x l ≡ 0
unfolding bit_of
bit_past x l h k = ap (λ (y : ℕ). y % 2) (div-eq_of_lt (lt_of_lt_of_le h (pow_mono k)))

-- a 1 digit stands below 64
bit_low : (x l : ℕ) → x < 2 ^ 64 → bit_of x l ≡ 1 → l < 64
bit_low x l h e = go (dec_lt l 64)
  where
    go : Dec (l < 64) → l < 64
    go (yes k) = k
    go (no k) = let z = bit_past x l h (omega arith) in absurd (omega arith)

pub below_law : (x : ℕ) → 0 < x → x < 2 ^ 64 → Below x (count_trailing_zeros 64 x)
below_law x p h = let t = trail 64 x p h in record { most = bit_low x _ h t.0; here = t.0; none = t.1 }

-- ---- a machine word of zeros

bit_none : (i : ℕ) → bit_of 0 i ≡ 0
unfolding bit_of
bit_none i = ap (λ (y : ℕ). y % 2) (zero-div (2 ^ i))

holds_at : (z : List ℕ) (base x : ℕ) → HasRow z base x → (l : ℕ) → l < 64 → root_at z (base + l) ≡ bit_of x l
unfolding HasRow
holds_at z base x h = h

-- the digits of x below l are taken in, and rest has the others
pub record Walked (x base n : ℕ) (old marks : List ℕ) (rest l : ℕ) : Type 0 where
  pub most : l ≤ 64
  pub left : rest ≡ x / 2 ^ l
  pub placed : (z : List ℕ) → HasRow z base x → Placed z n base old → Placed z n (base + l) marks

module _ (x base n : ℕ) (old : List ℕ) where
  pub walked_none : Walked x base n old old x 0
  walked_none = record {
    most = omega arith;
    left = sym (div-one x);
    placed = λ z h p. (let e : base + 0 ≡ base = omega arith in rw e p);
  }

  module _ (small : x < 2 ^ 64) (marks : List ℕ) (rest l : ℕ) (w : Walked x base n old marks rest l) where
    rest_bit : (i : ℕ) → bit_of rest i ≡ bit_of x (l + i)
    rest_bit i = ap (λ (y : ℕ). bit_of y i) w.left ∙ bit_shifted x l i

    pub walked_low : (k : ℕ) → Below rest k → l + k < 64
    walked_low k b = bit_low x (l + k) small (sym (rest_bit k) ∙ b.here)

    pub walked_next : (k : ℕ) (next : List ℕ) (m rest' : ℕ) → Below rest k → m ≡ l + k + 1 → rest' ≡ rest / 2 ^ k / 2
        → ((z : List ℕ) → root_at z (base + l + k) ≡ 1 → Placed z n (base + l + k) marks → Placed z n (suc (base + l + k)) next)
        → Walked x base n old next rest' m
    walked_next k next m rest' b em er f =
        let low = walked_low k b in record {
          most = omega arith;
          left = er ∙ ap (λ (y : ℕ). y / 2 ^ k / 2) w.left ∙ ap (λ (y : ℕ). y / 2) (shr-shr x l k) ∙ shr-shr x (l + k) 1
              ∙ ap (λ (y : ℕ). x / 2 ^ y) (sym em);
          placed = λ z h p. (let e : base + m ≡ suc (base + l + k) = omega arith in rw e (f z (root z h) (skipped z h p)));
        }
      where
        at : base + (l + k) ≡ base + l + k
        at = omega arith

        root : (z : List ℕ) → HasRow z base x → root_at z (base + l + k) ≡ 1
        root z h = ap (root_at z) (sym at) ∙ holds_at z base x h (l + k) (walked_low k b) ∙ sym (rest_bit k) ∙ b.here

        skipped : (z : List ℕ) → HasRow z base x → Placed z n base old → Placed z n (base + l + k) marks
        skipped z h p =
            placed_skip z n marks (base + l) (base + l + k) (w.placed z h p) (omega arith) (λ v c d. gap (v - (base + l)) v (omega arith) (omega arith))
          where
            gap : (i v : ℕ) → v ≡ base + (l + i) → i < k → root_at z v ≡ 0
            gap i v e c =
                let low = walked_low k b in
                ap (root_at z) e ∙ holds_at z base x h (l + i) (omega arith) ∙ sym (rest_bit i) ∙ b.none i c

    pub walked_all : rest ≡ 0 → (z : List ℕ) → HasRow z base x → Placed z n base old → Placed z n (base + 64) marks
    walked_all e z h p =
        let most = w.most in
        placed_skip z n marks (base + l) (base + 64) (w.placed z h p) (omega arith) (λ v c d. gap (v - (base + l)) v (omega arith) (omega arith))
      where
        gap : (i v : ℕ) → v ≡ base + (l + i) → v < base + 64 → root_at z v ≡ 0
        gap i v q c = ap (root_at z) q ∙ holds_at z base x h (l + i) (omega arith) ∙ sym (rest_bit i) ∙ ap (λ (y : ℕ). bit_of y i) e ∙ bit_none i

-- ---- all of them

pub holds_word : (z : List ℕ) (w : ℕ) → HasRow z (64 * w) (get_or z w 0)
unfolding HasRow root_at
holds_word z w l h =
    let q : (64 * w + l) / 64 ≡ w = omega arith in
    let r : (64 * w + l) % 64 ≡ l = omega arith in
    rw (q, r)
