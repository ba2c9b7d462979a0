-- A packed word with marked places flipped: the copy differs from the word there and nowhere else, and the 1s of the marks are the places.
-- Assumes nothing.
use mathlib.Core.Path.{◌≡◌, refl, sym, ap, ap₂, ◌∙◌}
use mathlib.Core.Bool.{cond}
use mathlib.Core.List.{List, [], ◌∷◌, ◌++◌, zip_with, append-nil}
use mathlib.Core.Logic.{◌≢◌}
use Prim.Native.Nat.{ℕ, zero, suc, ◌-◌, ◌≤◌, ◌<◌}
use native.Mathlib.Omega.{arith}
use lib.Bits.{bit_xor, xor_zero_r}
use lib.Dec.{eqb}
use lib.ListN.{length, get_or, take, drop, replicate, length-drop, length-replicate, get_or-replicate, take-append-drop}
use lib.Seq.{length-take-le, take_at, get_or-take, get_or-drop, ext_get_or}
use Rattle.ground.proofs.Zips.{length-zip_with}
use Rattle.bits.specs.Words.{Bits}
use Rattle.bits.specs.Places.{places_from, places}
use Rattle.bits.proofs.Digits.{bits_at, bits_take}
use Rattle.bits.proofs.Placing.{as_many}
use Rattle.bits.proofs.Sums.{zeros_sum}
use Rattle.field.proofs.Elements.{gf512}
use Rattle.packed.specs.Packed.{bits512, padded}
use Rattle.packed.proofs.Walks.{length_512, bits_512}
use Rattle.decoder.specs.Locators.{value_at, Turned}
use Rattle.decoder.specs.Marks.{ones_from, ones_of, Listing}
use Rattle.decoder.specs.declared.search.Flips.{Flips}
use Rattle.decoder.proofs.Ones.{ones_append, ones_zeros}

-- ---- sums of bits, place by place

flipped_bit : (b : ℕ) → b < 2 → bit_xor b 1 ≡ 1 - b
flipped_bit zero h = refl
flipped_bit (suc zero) h = refl
flipped_bit (suc (suc b)) h = absurd (omega arith)

sum_at : (v w : List ℕ) (i : ℕ) → length v ≡ length w → get_or (zip_with bit_xor v w) i 0 ≡ bit_xor (get_or v i 0) (get_or w i 0)
unfolding zip_with
sum_at [] [] i e = refl
sum_at [] (y ∷ w) i e = absurd (omega arith)
sum_at (x ∷ v) [] i e = absurd (omega arith)
sum_at (x ∷ v) (y ∷ w) zero e = refl
sum_at (x ∷ v) (y ∷ w) (suc i) e = sum_at v w i (omega arith)

sum_append : (v w v' w' : List ℕ) → length v ≡ length w → zip_with bit_xor (v ++ v') (w ++ w') ≡ zip_with bit_xor v w ++ zip_with bit_xor v' w'
unfolding zip_with
sum_append [] [] v' w' e = refl
sum_append [] (y ∷ w) v' w' e = absurd (omega arith)
sum_append (x ∷ v) [] v' w' e = absurd (omega arith)
sum_append (x ∷ v) (y ∷ w) v' w' e = ap (λ (l : List ℕ). bit_xor x y ∷ l) (sum_append v w v' w' (omega arith))

-- it differs from the word at the 1s that are added
place_one : (i b d : ℕ) → b < 2 → d < 2 → cond (eqb (bit_xor b d) b) [] (i ∷ []) ≡ cond (eqb d 0) [] (i ∷ [])
place_one i zero zero hb hd = refl
place_one i zero (suc zero) hb hd = refl
place_one i (suc zero) zero hb hd = refl
place_one i (suc zero) (suc zero) hb hd = refl
place_one i zero (suc (suc d)) hb hd = absurd (omega arith)
place_one i (suc zero) (suc (suc d)) hb hd = absurd (omega arith)
place_one i (suc (suc b)) d hb hd = absurd (omega arith)

places_sum : (i : ℕ) (w e : List ℕ) → Bits w → Bits e → length w ≡ length e → places_from i (zip_with bit_xor w e) w ≡ ones_from i e
unfolding places_from ones_from zip_with
places_sum i [] [] bw be l = refl
places_sum i [] (d ∷ e) bw be l = absurd (omega arith)
places_sum i (b ∷ w) [] bw be l = absurd (omega arith)
places_sum i (b ∷ w) (d ∷ e) bw be l = ap₂ ◌++◌ (place_one i b d bw.0 be.0) (places_sum (suc i) w e bw.1 be.1 (omega arith))

-- ---- zeros behind

zeros_behind : (n : ℕ) (l : List ℕ) → length l ≡ 512 → n ≤ 512 → ((p : ℕ) → n ≤ p → get_or l p 0 ≡ 0) → l ≡ take n l ++ replicate (512 - n) 0
zeros_behind n l long h none =
    let k = 512 - n in
    let rest : length (drop n l) ≡ k = length-drop n l ∙ omega arith in
    let ends : drop n l ≡ replicate k 0
    = ext_get_or 0 (drop n l) (replicate k 0) (rest ∙ sym (length-replicate k 0))
    (λ i m. get_or-drop n l i 0 ∙ none _ (omega arith) ∙ sym (get_or-replicate k i 0 0 (omega arith))) in
    sym (take-append-drop n l) ∙ ap (λ (t : List ℕ). take n l ++ t) ends

sum_of_zeros : (k : ℕ) → zip_with bit_xor (replicate k 0) (replicate k 0) ≡ replicate k 0
sum_of_zeros k = ap (λ (m : ℕ). zip_with bit_xor (replicate m 0) (replicate k 0)) (sym (length-replicate k 0)) ∙ zeros_sum (replicate k 0)

-- ---- the copy: n bits of a word, with the marks added to them

module _ (words marks copy : List ℕ) (n : ℕ) (few : n < 512) (sum : bits512 copy ≡ zip_with bit_xor (bits512 words) (bits512 marks))
    (clear : bits512 words ≡ padded (take n (bits512 words))) (behind : (p : ℕ) → n ≤ p → get_or (bits512 marks) p 0 ≡ 0)
  where
    abbrev first : List ℕ → List ℕ
    first ws = take n (bits512 ws)

    long : (ws : List ℕ) → length (first ws) ≡ n
    long ws = length-take-le n (bits512 ws) (omega (arith, length_512 ws))

    alike : length (first words) ≡ length (first marks)
    alike = long words ∙ sym (long marks)

    bits : (ws : List ℕ) → Bits (first ws)
    bits ws = bits_take n (bits512 ws) (bits_512 ws)

    marks_then : bits512 marks ≡ first marks ++ replicate (512 - n) 0
    marks_then = zeros_behind n (bits512 marks) (length_512 marks) (omega arith) behind

    word_then : bits512 words ≡ first words ++ replicate (512 - n) 0
    word_then = clear ∙ ap (λ (m : ℕ). first words ++ replicate (512 - m) 0) (long words)

    copy_then : bits512 copy ≡ zip_with bit_xor (first words) (first marks) ++ replicate (512 - n) 0
    copy_then =
        sum ∙ ap₂ (zip_with bit_xor) word_then marks_then ∙ sum_append (first words) (first marks) (replicate (512 - n) 0) (replicate (512 - n) 0) alike
        ∙ ap (λ (l : List ℕ). zip_with bit_xor (first words) (first marks) ++ l) (sum_of_zeros (512 - n))

    copy_first : first copy ≡ zip_with bit_xor (first words) (first marks)
    copy_first = ap (take n) copy_then ∙ take_at _ _ n (length-zip_with bit_xor (first words) (first marks) alike ∙ long words)

    pub copy_padded : bits512 copy ≡ padded (first copy)
    copy_padded = copy_then ∙ ap₂ (λ (l : List ℕ) (m : ℕ). l ++ replicate (512 - m) 0) (sym copy_first) (sym (long copy))

    differing : places (first copy) (first words) ≡ ones_of (bits512 marks)
    differing =
        ap (λ (l : List ℕ). places l (first words)) copy_first ∙ places_sum 0 (first words) (first marks) (bits words) (bits marks) alike
        ∙ sym (ap ones_of marks_then ∙ ones_append 0 (first marks) (replicate (512 - n) 0)
        ∙ ap (λ (l : List ℕ). ones_of (first marks) ++ l) (ones_zeros _ (512 - n)) ∙ append-nil (ones_of (first marks)))

    copy_at : (i : ℕ) → i < n → get_or (first copy) i 0 ≡ bit_xor (get_or (first words) i 0) (get_or (bits512 marks) i 0)
    copy_at i h =
        ap (λ (l : List ℕ). get_or l i 0) copy_first ∙ sum_at (first words) (first marks) i alike
        ∙ ap (bit_xor (get_or (first words) i 0)) (get_or-take n (bits512 marks) i 0 h)

    module _ (locator : List ℕ) (len : ℕ) (flips : Flips)
        (told : (p : ℕ) → p < n
        → (value_at locator (suc len) (512 - n) p ≡ gf512.zero → get_or (bits512 marks) p 0 ≡ 1)
        × (value_at locator (suc len) (512 - n) p ≢ gf512.zero → get_or (bits512 marks) p 0 ≡ 0))
        (list : Listing (ones_of (bits512 marks)) flips)
      where
        at_n : (i : ℕ) → value_at locator (suc len) (512 - length (first words)) i ≡ value_at locator (suc len) (512 - n) i
        at_n i = ap (λ (m : ℕ). value_at locator (suc len) (512 - m) i) (long words)

        pub turned : Turned locator len (first words) (first copy) flips
        turned = record {
          long = long copy ∙ sym (long words);
          flipped = λ i h z. let h' : i < n = omega (arith, long words) in
              copy_at i h' ∙ ap (bit_xor (get_or (first words) i 0)) ((told i h').0 (sym (at_n i) ∙ z))
              ∙ flipped_bit (get_or (first words) i 0) (bits_at (first words) (bits words) i);
          kept = λ i h z. let h' : i < n = omega (arith, long words) in
              copy_at i h' ∙ ap (bit_xor (get_or (first words) i 0)) ((told i h').1 (λ e. z (at_n i ∙ e)))
              ∙ xor_zero_r (get_or (first words) i 0);
          count = list.count ∙ ap length (sym differing) ∙ as_many (first copy) (first words);
          list = λ room. rw differing (list.list room);
        }
