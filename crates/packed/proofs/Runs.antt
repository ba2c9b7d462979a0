-- The bits of a list taken into a number: eight together, or one, and so on until all are taken.
-- Assumes nothing.
use mathlib.Core.Path.{◌≡◌, refl, sym, ap, ap₂, ◌∙◌, subst}
use mathlib.Core.List.{List, [], ◌∷◌, ◌++◌, append_assoc, append-nil}
use Prim.Native.Nat.{ℕ, ◌+◌, ◌-◌, ◌*◌, ◌/◌, ◌%◌, ◌^◌, ◌≤◌, ◌<◌}
use native.Mathlib.Omega.{arith}
use native.Mathlib.Numerals.{add-one}
use native.Mathlib.Nat.{div-one, mod-eq_of_lt}
use lib.Bits.{bit_or}
use lib.ListN.{length, get_or, take, drop, replicate, length-drop, drop_of_length-le}
use lib.Seq.{drop-cons, get_or-drop, take_all}
use Rattle.std.specs.Simd.{first_chunks}
use Rattle.bits.specs.Words.{digits, lowest}
use Rattle.bits.proofs.Digits.{length-lowest, lowest_at}
use Rattle.bits.proofs.Shifts.{digits-or, digits_shl, digits-zero}
use Rattle.bits.proofs.Chunks.{lowest-take, lowest-drop, eight_read}

-- ---- a number that grows

-- x has the first j bits as its low digits
abbrev pub Taken : List ℕ → ℕ → ℕ → Type 0
Taken bits j x = bits ≡ digits j x ++ drop j bits

pub taken_none : (bits : List ℕ) → Taken bits 0 0
unfolding digits
taken_none bits = refl

pub taken_more : (bits : List ℕ) (j k x b : ℕ) → j + k ≤ 64 → b < 2 ^ k → drop j bits ≡ digits k b ++ drop (j + k) bits → Taken bits j x
    → Taken bits (j + k) (bit_or (x * 2 ^ k % 2 ^ 64) b)
taken_more bits j k x b h low e t =
    t ∙ ap (λ (v : List ℕ). digits j x ++ v) e
    ∙ sym (append_assoc (digits j x) (digits k b) (drop (j + k) bits))
    ∙ ap (λ (v : List ℕ). v ++ drop (j + k) bits) (sym (digits-or j k x b h low))

pub taken_at : (bits : List ℕ) (j k x : ℕ) → j ≡ k → Taken bits j x → Taken bits k x
taken_at bits j k x e t = subst (λ (n : ℕ). Taken bits n x) e t

-- the i-th eight elements of a word, of which r has the lowest digits
pub eight_taken : (word : List ℕ) (eights : List (List ℕ)) → eights ≡ first_chunks 8 (length word / 8) word → (i x r b : ℕ) → i < length word / 8
    → length word ≤ 64 → b ≡ r → r < 256 → digits 8 r ≡ lowest (get_or eights i []) → Taken (lowest word) (8 * i) x
    → Taken (lowest word) (8 * (i + 1)) (bit_or (x * 2 ^ 8 % 2 ^ 64) b)
eight_taken word eights front i x r b h room eb low e t =
    let s : 8 * i + 8 ≡ 8 * (i + 1) = omega arith in
    let here = eight_read word eights front i r h e in
    let n : bit_or (x * 2 ^ 8 % 2 ^ 64) b ≡ bit_or (x * 2 ^ 8 % 2 ^ 64) r = ap (bit_or (x * 2 ^ 8 % 2 ^ 64)) eb in
    rw n (taken_at (lowest word) (8 * i + 8) (8 * (i + 1)) _ s (taken_more (lowest word) (8 * i) 8 x r (omega arith) low here t))

-- the next element, where the i-th of those behind the eights is next
pub one_taken : (word rest : List ℕ) → rest ≡ drop (length word / 8 * 8) word → (i x b : ℕ) → i < length rest → length word ≤ 64
    → b ≡ get_or rest i 0 % 2 → Taken (lowest word) (8 * (length word / 8) + i) x
    → Taken (lowest word) (8 * (length word / 8) + (i + 1)) (bit_or (x * 2 ^ 1 % 2 ^ 64) b)
unfolding digits
one_taken word rest back i x b h room e t =
    let j = 8 * (length word / 8) + i in
    let n : length rest ≡ length word - length word / 8 * 8 = ap length back ∙ length-drop (length word / 8 * 8) word in
    let there : get_or rest i 0 ≡ get_or word j 0
    = ap (λ (l : List ℕ). get_or l i 0) back ∙ get_or-drop (length word / 8 * 8) word i 0 ∙ ap (λ (k : ℕ). get_or word k 0) (omega arith) in
    let d : get_or (lowest word) j 0 ≡ b / 1 % 2
    = lowest_at word j ∙ ap (λ (k : ℕ). k % 2) (sym there) ∙ sym (ap (λ (k : ℕ). k % 2) (div-one b ∙ e) ∙ mod-eq_of_lt (omega arith)) in
    let here : drop j (lowest word) ≡ digits 1 b ++ drop (j + 1) (lowest word)
    = drop-cons (lowest word) j 0 (omega (arith, length-lowest word)) ∙ ap₂ (λ (k m : ℕ). k ∷ drop m (lowest word)) d (sym (add-one j)) in
    taken_at (lowest word) (j + 1) (8 * (length word / 8) + (i + 1)) _ (omega arith) (taken_more (lowest word) j 1 x b (omega arith) (omega arith) here t)

-- all of 64
pub taken_all : (word : List ℕ) (j x : ℕ) → length word ≡ 64 → j ≡ 64 → Taken (lowest word) j x → digits 64 x ≡ lowest word
taken_all word j x long e t =
    sym (taken_at (lowest word) j 64 x e t
    ∙ ap (λ (v : List ℕ). digits 64 x ++ v) (drop_of_length-le (lowest word) {i = 64} (omega (arith, length-lowest word)))
    ∙ append-nil (digits 64 x))

-- all of fewer, at the high end
pub high_end : (word : List ℕ) (j x : ℕ) → length word ≡ j → j ≤ 64 → Taken (lowest word) j x
    → digits 64 (x * 2 ^ (64 - length word) % 2 ^ 64) ≡ lowest word ++ replicate (64 - length word) 0
high_end word j x long h t =
    let all : lowest word ≡ digits j x
    = t ∙ ap (λ (v : List ℕ). digits j x ++ v) (drop_of_length-le (lowest word) {i = j} (omega (arith, length-lowest word))) ∙ append-nil (digits j x) in
    rw long (digits_shl j (64 - j) x (omega arith) ∙ ap (λ (v : List ℕ). v ++ replicate (64 - j) 0) (sym all))

-- ---- 64 bits from i on, or as many as there are, with zeros behind

module _ (word : List ℕ) (i : ℕ) where
  pub piece_part : (k x : ℕ) → k ≡ length word - i → i < length word → length word < i + 64
      → digits 64 x ≡ lowest (take k (drop i word)) ++ replicate (64 - length (take k (drop i word))) 0
      → digits 64 x ≡ take 64 (drop i (lowest word)) ++ replicate (64 - (length word - i)) 0
  piece_part k x ek h few e =
      let all : take k (drop i word) ≡ drop i word = take_all k (drop i word) (omega (arith, length-drop i word)) in
      let low : lowest (drop i word) ≡ take 64 (drop i (lowest word))
      = sym (take_all 64 (lowest (drop i word)) (omega (arith, length-lowest (drop i word), length-drop i word))) ∙ ap (take 64) (lowest-drop i word) in
      e ∙ ap (λ (v : List ℕ). lowest v ++ replicate (64 - length v) 0) all
      ∙ ap₂ (λ (v : List ℕ) (n : ℕ). v ++ replicate (64 - n) 0) low (length-drop i word)

  pub piece_none : length word ≤ i → digits 64 0 ≡ take 64 (drop i (lowest word)) ++ replicate (64 - (length word - i)) 0
  piece_none h =
      let e : 64 ≡ 64 - (length word - i) = omega arith in
      digits-zero 64
      ∙ ap₂ (λ (v : List ℕ) (m : ℕ). take 64 v ++ replicate m 0) (sym (drop_of_length-le (lowest word) {i = i} (omega (arith, length-lowest word)))) e

  pub piece_full : (k x : ℕ) → k ≡ 64 → i + 64 ≤ length word → digits 64 x ≡ lowest (take k (drop i word))
      → digits 64 x ≡ take 64 (drop i (lowest word)) ++ replicate (64 - (length word - i)) 0
  piece_full k x ek h e =
      let none : 0 ≡ 64 - (length word - i) = omega arith in
      let low : lowest (take k (drop i word)) ≡ take 64 (drop i (lowest word))
      = ap (λ (n : ℕ). lowest (take n (drop i word))) ek ∙ lowest-take 64 (drop i word) ∙ ap (take 64) (lowest-drop i word) in
      sym (append-nil (digits 64 x)) ∙ ap₂ (λ (v : List ℕ) (m : ℕ). v ++ replicate m 0) (e ∙ low) none
