-- Words with zeros behind: parts of them, and the parts that machine words hold.
-- Assumes nothing.
use mathlib.Core.Path.{◌≡◌, refl, sym, ap, ap₂, ◌∙◌}
use mathlib.Core.List.{List, [], ◌∷◌, ◌++◌, append-nil}
use Prim.Native.Nat.{ℕ, zero, suc, ◌+◌, ◌-◌, ◌*◌, ◌/◌, ◌%◌, ◌^◌, ◌≤◌, ◌<◌, min}
use native.Mathlib.Omega.{arith}
use lib.ListN.{length, get_or, take, drop, replicate, length-append, length-drop, length-replicate, length-take, drop_of_length-le}
use lib.Seq.{take-nil, drop-nil, take_all, take_at, take-take}
use Rattle.bits.specs.Words.{digits}
use Rattle.bits.proofs.Digits.{length_digits}
use Rattle.packed.specs.Packed.{bits512, padded}
use Rattle.bits.proofs.Shifts.{digits-zero, digits_append, digits_shl}
use Rattle.packed.proofs.Walks.{length_512, word_at}

abbrev zeros : ℕ → List ℕ
zeros k = replicate k 0

pub zeros_at : (n i : ℕ) → ◌≡◌ {A = ℕ} (get_or (zeros n) i 0) 0
zeros_at zero i = refl
zeros_at (suc n) zero = refl
zeros_at (suc n) (suc i) = zeros_at n i

pub drop-zeros : (i k : ℕ) → drop i (zeros k) ≡ zeros (k - i)
drop-zeros zero k = let e : k ≡ k - 0 = omega arith in ap zeros e
drop-zeros (suc i) zero = let e : 0 ≡ 0 - suc i = omega arith in ap zeros e
drop-zeros (suc i) (suc k) = let e : k - i ≡ suc k - suc i = omega arith in drop-zeros i k ∙ ap zeros e

drop_padded : (i k : ℕ) (word : List ℕ) → drop i (word ++ zeros k) ≡ drop i word ++ zeros (k - (i - length word))
drop_padded i k [] =
    let e : k - i ≡ k - (i - 0) = omega arith in drop-zeros i k ∙ ap zeros e ∙ ap (λ (l : List ℕ). l ++ zeros (k - (i - 0))) (sym (drop-nil i))
drop_padded zero k (b ∷ word) = let e : k ≡ k - (0 - suc (length word)) = omega arith in ap (λ (n : ℕ). b ∷ (word ++ zeros n)) e
drop_padded (suc i) k (b ∷ word) =
    let e : k - (i - length word) ≡ k - (suc i - suc (length word)) = omega arith in drop_padded i k word ∙ ap (λ (n : ℕ). drop i word ++ zeros n) e

pub take-zeros : (n m : ℕ) → take n (zeros m) ≡ zeros (min n m)
take-zeros zero m = let s : min 0 m ≡ 0 = omega arith in rw s
take-zeros (suc n) zero = let s : min (suc n) 0 ≡ 0 = omega arith in rw s
take-zeros (suc n) (suc m) = let s : min (suc n) (suc m) ≡ suc (min n m) = omega arith in rw s (ap (λ (l : List ℕ). 0 ∷ l) (take-zeros n m))

take_padded : (m k : ℕ) (word : List ℕ) → m ≤ length word + k → take m (word ++ zeros k) ≡ take m word ++ zeros (m - length word)
take_padded m k [] h =
    let e : min m k ≡ m - 0 = omega arith in take-zeros m k ∙ ap zeros e ∙ ap (λ (l : List ℕ). l ++ zeros (m - 0)) (sym (take-nil m))
take_padded zero k (b ∷ word) h = let e : 0 ≡ 0 - suc (length word) = omega arith in ap zeros e
take_padded (suc m) k (b ∷ word) h =
    let e : m - length word ≡ suc m - suc (length word) = omega arith in
    ap (λ (l : List ℕ). b ∷ l) (take_padded m k word (omega arith) ∙ ap (λ (n : ℕ). take m word ++ zeros n) e)

-- 64 bits of a word with zeros behind
pub padded_part : (word : List ℕ) (i : ℕ) → length word ≤ 512 → i + 64 ≤ 512
    → take 64 (drop i (padded word)) ≡ take 64 (drop i word) ++ replicate (64 - (length word - i)) 0
padded_part word i h room =
    let k = 512 - length word in
    let rest = length-drop i word in
    ap (take 64) (drop_padded i k word)
    ∙ take_padded 64 (k - (i - length word)) (drop i word) (omega arith)
    ∙ ap (λ (n : ℕ). take 64 (drop i word) ++ zeros (64 - n)) rest

-- behind a word there are zeros
pub padded_behind : (word : List ℕ) (i : ℕ) → length word ≤ i → drop i (padded word) ≡ replicate (512 - i) 0
padded_behind word i h =
    let k = 512 - length word in
    let e : k - (i - length word) ≡ 512 - i = omega arith in
    drop_padded i k word ∙ ap₂ (λ (l : List ℕ) (n : ℕ). l ++ zeros n) (drop_of_length-le word {i = i} h) e

pub length-padded : (word : List ℕ) → length word ≤ 512 → length (padded word) ≡ 512
length-padded word h =
    let long : length (zeros (512 - length word)) ≡ 512 - length word = length-replicate (512 - length word) 0 in
    length-append word (zeros (512 - length word)) ∙ omega arith

-- ---- the first bits of machine words

-- the digits of x, of which those before the place m are kept: all, none, or some
module _ (x m : ℕ) where
  pub cut_all : 64 ≤ m → digits 64 x ≡ take m (digits 64 x) ++ replicate (64 - m) 0
  cut_all h =
      let e : 0 ≡ 64 - m = omega arith in
      sym (append-nil (digits 64 x)) ∙ ap₂ (λ (l : List ℕ) (n : ℕ). l ++ zeros n) (sym (take_all m (digits 64 x) (omega (arith, length_digits 64 x)))) e

  pub cut_none : m ≡ 0 → digits 64 0 ≡ take m (digits 64 x) ++ replicate (64 - m) 0
  cut_none e = digits-zero 64 ∙ ap (λ (n : ℕ). take n (digits 64 x) ++ zeros (64 - n)) (sym e)

  pub cut_some : m ≤ 64 → digits 64 (x / 2 ^ (64 - m) * 2 ^ (64 - m) % 2 ^ 64) ≡ take m (digits 64 x) ++ replicate (64 - m) 0
  cut_some h =
      let k = 64 - m in
      let y = x / 2 ^ k in
      let e : m + k ≡ 64 = omega arith in
      let kept : take m (digits 64 x) ≡ digits m y
      = ap (λ (n : ℕ). take m (digits n x)) (sym e) ∙ ap (take m) (digits_append m k x) ∙ take_at (digits m y) (digits k x) m (length_digits m y) in
      digits_shl m k y e ∙ ap (λ (l : List ℕ). l ++ zeros k) (sym kept)

pub drop-take : (i n : ℕ) (l : List ℕ) → drop i (take n l) ≡ take (n - i) (drop i l)
drop-take zero n l = let e : n ≡ n - 0 = omega arith in ap (λ (m : ℕ). take m l) e
drop-take (suc i) zero l = let e : 0 ≡ 0 - suc i = omega arith in ap (λ (m : ℕ). take m (drop (suc i) l)) e
drop-take (suc i) (suc n) [] = sym (take-nil (suc n - suc i))
drop-take (suc i) (suc n) (b ∷ l) = let e : n - i ≡ suc n - suc i = omega arith in drop-take i n l ∙ ap (λ (m : ℕ). take m (drop i l)) e

take_comm : (m n : ℕ) (l : List ℕ) → take m (take n l) ≡ take n (take m l)
take_comm zero n l = sym (take-nil n)
take_comm (suc m) zero l = refl
take_comm (suc m) (suc n) [] = refl
take_comm (suc m) (suc n) (b ∷ l) = ap (λ (k : List ℕ). b ∷ k) (take_comm m n l)

-- those that a machine word holds
pub first_at : (ws : List ℕ) (n w x : ℕ) → w < 8 → digits 64 x ≡ take (n - 64 * w) (digits 64 (get_or ws w 0)) ++ replicate (64 - (n - 64 * w)) 0
    → digits 64 x ≡ take 64 (drop (64 * w) (padded (take n (bits512 ws))))
first_at ws n w x h e =
    let i = 64 * w in
    let word = take n (bits512 ws) in
    let long : length word ≡ min n 512 = length-take n (bits512 ws) ∙ ap (min n) (length_512 ws) in
    let z : 64 - (n - i) ≡ 64 - (length word - i) = omega arith in
    e ∙ sym (padded_part word i (omega arith) (omega arith)
    ∙ ap₂ (λ (l : List ℕ) (k : ℕ). l ++ zeros k)
    (ap (take 64) (drop-take i n (bits512 ws)) ∙ take_comm 64 (n - i) (drop i (bits512 ws)) ∙ ap (take (n - i)) (word_at ws w h)) (sym z))

pub length_first : (ws : List ℕ) (n : ℕ) → length (padded (take n (bits512 ws))) ≡ 512
length_first ws n = length-padded (take n (bits512 ws)) (omega (arith, length-take n (bits512 ws), length_512 ws))

-- ---- the first 512 bits of a list

pub length_512_first : (bits : List ℕ) → length (padded (take 512 bits)) ≡ 512
length_512_first bits = length-padded (take 512 bits) (omega (arith, length-take 512 bits))

-- those that a machine word holds
pub piece_at : (bits : List ℕ) (n w x : ℕ) → length bits ≡ n → w < 8 → digits 64 x ≡ take 64 (drop (64 * w) bits) ++ replicate (64 - (n - 64 * w)) 0
    → digits 64 x ≡ take 64 (drop (64 * w) (padded (take 512 bits)))
piece_at bits n w x long h e =
    let i = 64 * w in
    let word = take 512 bits in
    let m = length-take 512 bits in
    let z : 64 - (n - i) ≡ 64 - (length word - i) = omega arith in
    e ∙ sym (padded_part word i (omega arith) (omega arith)
    ∙ ap₂ (λ (l : List ℕ) (k : ℕ). l ++ zeros k) (ap (take 64) (drop-take i 512 bits) ∙ take-take 64 (512 - i) (drop i bits) (omega arith)) (sym z))
