-- Bits of a word as the digits of a number: four by four, and eight as twice four.
-- Assumes nothing.
use mathlib.Core.Path.{◌≡◌, ap, ◌∙◌}
use mathlib.Core.List.{List, [], ◌∷◌, ◌++◌}
use Prim.Native.Nat.{ℕ, suc, ◌+◌, ◌*◌, ◌/◌, ◌%◌, ◌<◌}
use native.Mathlib.Omega.{arith}
use native.Mathlib.Nat.{div-div-eq-div-mul}
use native.Mathlib.Numerals.{towards_suc}
use lib.ListN.{length, get_or, drop}
use lib.Seq.{drop-cons}
use Rattle.bits.specs.Words.{digits}

pub four_digits : (a b c d : ℕ) → a < 2 → b < 2 → c < 2 → d < 2 → digits 4 (a * 8 + b * 4 + c * 2 + d) ≡ a ∷ b ∷ c ∷ d ∷ []
unfolding digits
four_digits a b c d ha hb hc hd =
    let ea : (a * 8 + b * 4 + c * 2 + d) / 8 % 2 ≡ a = omega arith in
    let eb : (a * 8 + b * 4 + c * 2 + d) / 4 % 2 ≡ b = omega arith in
    let ec : (a * 8 + b * 4 + c * 2 + d) / 2 % 2 ≡ c = omega arith in
    let ed : (a * 8 + b * 4 + c * 2 + d) / 1 % 2 ≡ d = omega arith in
    rw (ea, eb, ec, ed)

pub four_from : (w : List ℕ) (i : ℕ) → i + 3 < length w
    → drop i w ≡ get_or w i 0 ∷ get_or w (i + 1) 0 ∷ get_or w (i + 2) 0 ∷ get_or w (i + 3) 0 ∷ drop (i + 4) w
four_from w i h =
    simp towards_suc
    (drop-cons w i 0 (omega arith)
    ∙ ap (λ (v : List ℕ). get_or w i 0 ∷ v) (drop-cons w (suc i) 0 (omega arith))
    ∙ ap (λ (v : List ℕ). get_or w i 0 ∷ get_or w (suc i) 0 ∷ v) (drop-cons w (suc (suc i)) 0 (omega arith))
    ∙ ap (λ (v : List ℕ). get_or w i 0 ∷ get_or w (suc i) 0 ∷ get_or w (suc (suc i)) 0 ∷ v) (drop-cons w (suc (suc (suc i))) 0 (omega arith)))

-- eight digits: the higher four, then the lower four
pub eight_digits : (x : ℕ) → digits 8 x ≡ digits 4 (x / 16) ++ digits 4 (x % 16)
unfolding digits
eight_digits x =
    let l3 : x % 16 / 8 % 2 ≡ x / 8 % 2 = omega arith in
    let l2 : x % 16 / 4 % 2 ≡ x / 4 % 2 = omega arith in
    let l1 : x % 16 / 2 % 2 ≡ x / 2 % 2 = omega arith in
    let l0 : x % 16 / 1 % 2 ≡ x / 1 % 2 = omega arith in
    simp (div-div-eq-div-mul, l3, l2, l1, l0)
