-- A list as runs of n elements, one after the other, as `as_chunks` gives it: the run at a place, and eight elements whose lowest digits a number has.
-- Assumes nothing.
use mathlib.Core.Path.{◌≡◌, refl, sym, ap, ap₂, ◌∙◌}
use mathlib.Core.List.{List, [], ◌∷◌, ◌++◌}
use Prim.Native.Nat.{ℕ, zero, suc, ◌+◌, ◌*◌, ◌/◌, ◌%◌, ◌<◌}
use native.Mathlib.Nat.{mul-zero}
use native.Mathlib.Omega.{arith}
use lib.ListN.{length, get_or, take, drop, length-drop, take-append-drop}
use lib.Seq.{drop-drop, length-take-le}
use Rattle.std.specs.Simd.{first_chunks}
use Rattle.bits.specs.Words.{digits, lowest}
use Rattle.bits.specs.Bytes.{number_from, as_number}
use Rattle.bits.proofs.Digits.{length-lowest, lowest_bits}
use Rattle.bits.proofs.Numbers.{digits_inj, digits_number, number_low}

-- the i-th of k runs
pub run_at : (n k i : ℕ) (xs : List ℕ) → i < k → get_or (first_chunks n k xs) i [] ≡ take n (drop (n * i) xs)
run_at n zero i xs h = absurd (omega arith)
run_at n (suc k) zero xs h = ap (λ (m : ℕ). take n (drop m xs)) (sym (mul-zero n))
run_at n (suc k) (suc i) xs h =
    let e : n + n * i ≡ n * suc i = omega arith in
    run_at n k i (drop n xs) (omega arith) ∙ ap (take n) (drop-drop (n * i) n xs ∙ ap (λ (m : ℕ). drop m xs) e)

pub lowest-take : (n : ℕ) (w : List ℕ) → lowest (take n w) ≡ take n (lowest w)
lowest-take zero w = refl
lowest-take (suc n) [] = refl
lowest-take (suc n) (b ∷ w) = ap (λ (v : List ℕ). b % 2 ∷ v) (lowest-take n w)

pub lowest-drop : (n : ℕ) (w : List ℕ) → lowest (drop n w) ≡ drop n (lowest w)
lowest-drop zero w = refl
lowest-drop (suc n) [] = refl
lowest-drop (suc n) (b ∷ w) = lowest-drop n w

-- elements count by their lowest digits
from_lowest : (x : ℕ) (bits : List ℕ) → number_from x (lowest bits) ≡ number_from x bits
unfolding number_from
from_lowest x [] = refl
from_lowest x (b ∷ bits) =
    let e : 2 * x + b % 2 % 2 ≡ 2 * x + b % 2 = omega arith in
    ap (λ (n : ℕ). number_from n (lowest bits)) e ∙ from_lowest (2 * x + b % 2) bits

-- what `as_chunks` gives of a word, eight elements in each; r has the lowest digits of the i-th
module _ (word : List ℕ) (eights : List (List ℕ)) (front : eights ≡ first_chunks 8 (length word / 8) word)
    (i r : ℕ) (h : i < length word / 8) (e : digits 8 r ≡ lowest (get_or eights i [])) where
  digits_here : digits 8 r ≡ lowest (take 8 (drop (8 * i) word))
  digits_here = e ∙ ap (λ (l : List (List ℕ)). lowest (get_or l i [])) front ∙ ap lowest (run_at 8 (length word / 8) i word h)

  -- they stand at the word's front from 8 * i on
  pub eight_read : drop (8 * i) (lowest word) ≡ digits 8 r ++ drop (8 * i + 8) (lowest word)
  eight_read =
      let here : digits 8 r ≡ take 8 (drop (8 * i) (lowest word)) = digits_here ∙ lowest-take 8 (drop (8 * i) word) ∙ ap (take 8) (lowest-drop (8 * i) word) in
      sym (take-append-drop 8 (drop (8 * i) (lowest word))) ∙ ap₂ ◌++◌ (sym here) (drop-drop 8 (8 * i) (lowest word))

  -- below 256 it is their number
  pub eight_number : r < 256 → r ≡ as_number (take 8 (drop (8 * i) word))
  eight_number low =
      let part = take 8 (drop (8 * i) word) in
      let bs = lowest part in
      let long : length bs ≡ 8 = length-lowest part ∙ length-take-le 8 (drop (8 * i) word) (omega (arith, length-drop (8 * i) word)) in
      let there : digits 8 (as_number bs) ≡ bs = ap (λ (n : ℕ). digits n (as_number bs)) (sym long) ∙ digits_number bs (lowest_bits part) in
      digits_inj 8 r (as_number bs) low (number_low 8 bs (omega (arith, long))) (digits_here ∙ sym there) ∙ from_lowest 0 part
