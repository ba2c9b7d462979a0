-- A register that holds the remainder of a word takes in more bits by a table, and holds that of the longer word.
-- Assumes nothing.
use mathlib.Core.Path.{◌≡◌, refl, sym, ap, ap₂, ◌∙◌}
use mathlib.Core.List.{List, [], ◌++◌, append_assoc, append-nil}
use Prim.Native.Nat.{ℕ, zero, suc, ◌+◌, ◌-◌, ◌*◌, ◌/◌, ◌%◌, ◌^◌, ◌≤◌, ◌<◌, min}
use native.Mathlib.Omega.{arith}
use native.Mathlib.Nat.{mod-lt, le_refl, mul_assoc}
use native.Mathlib.Numerals.{add-one}
use lib.Bits.{bit_xor, xor_lt}
use lib.ListN.{length, get_or, take, replicate, replicate-append-replicate}
use lib.Pow.{pow_pos, pow-add, shl_lt, shr_lt}
use lib.Seq.{take_all, take_at, take-append-le, take-append-add}
use Rattle.bits.specs.Words.{Bits, digits}
use Rattle.bits.specs.Remainders.{remainder, remainder_from}
use Rattle.bits.proofs.Digits.{length_digits, digits_bits, bits_append}
use Rattle.bits.proofs.Shifts.{digits-mod-pow, digits_append, shl_mod}
use Rattle.bits.proofs.Remainders.{from_append, from_lt}
use Rattle.bits.proofs.Falling.{zeros_taken, at_top_first}
use Rattle.bits.proofs.Copies.{bits_zeros}
use Rattle.packed.specs.Packed.{bits_from, bits512}
use Rattle.packed.proofs.Walks.{length_from, bits_of_from, around}
use Rattle.bch.specs.Registers.{Remainders}
use Rattle.remainders.specs.Taking.{eight_by, sixteen_by, turn_by_8, turn_by_16, turns_by, bytes_by, machine_words_by, taken_by}
use Rattle.remainders.proofs.Entries.{eight_entries, sixteen_entries}

-- ---- one turn after another, as the loops make them

pub words_turn : (table words : List ℕ) (n i x : ℕ) → i < n
    → machine_words_by table (n - (i + 1)) (i + 1) (bytes_by table 8 x (get_or words i 0)) words ≡ machine_words_by table (n - i) i x words
unfolding machine_words_by
words_turn table words n i x h = let s : n - i ≡ suc (n - (i + 1)) = omega arith in rw (s, add-one)

pub words_end : (table words : List ℕ) (n i x : ℕ) → n ≤ i → x ≡ machine_words_by table (n - i) i x words
unfolding machine_words_by
words_end table words n i x h = let s : n - i ≡ 0 = omega arith in rw s

pub turns_turn : (table : List ℕ) (n j x : ℕ) → j + 2 ≤ n → turns_by table (n - (j + 2)) (turn_by_16 table x) ≡ turns_by table (n - j) x
unfolding turns_by
turns_turn table n j x h = let s : n - j ≡ suc (suc (n - (j + 2))) = omega arith in rw s

pub turns_last : (table : List ℕ) (n j x : ℕ) → j < n → n < j + 2 → turn_by_8 table x ≡ turns_by table (n - j) x
unfolding turns_by
turns_last table n j x h l = let s : n - j ≡ 1 = omega arith in rw s

pub turns_end : (table : List ℕ) (n j x : ℕ) → n ≤ j → x ≡ turns_by table (n - j) x
unfolding turns_by
turns_end table n j x h = let s : n - j ≡ 0 = omega arith in rw s

-- ---- the first m of 64 digits

module _ (m s v : ℕ) (e : m + s ≡ 64) where
  first_digits : digits m (v / 2 ^ s % 2 ^ m) ≡ take m (digits 64 v)
  first_digits =
      let u = digits m (v / 2 ^ s) in
      digits-mod-pow m m (v / 2 ^ s) (le_refl m)
      ∙ sym (ap (take m) (ap (λ (j : ℕ). digits j v) (sym e) ∙ digits_append m s v) ∙ take_at u (digits s v) m (length_digits m (v / 2 ^ s)))

  -- at the top of 192
  first_at_top : v / 2 ^ s * 2 ^ s % 2 ^ 64 * 2 ^ 128 ≡ v / 2 ^ s % 2 ^ m * 2 ^ (s + 128)
  first_at_top =
      let b = v / 2 ^ s % 2 ^ m in
      ap (λ (j : ℕ). v / 2 ^ s * 2 ^ s % 2 ^ j * 2 ^ 128) (sym e) ∙ ap (λ (j : ℕ). j * 2 ^ 128) (shl_mod (v / 2 ^ s) m s)
      ∙ mul_assoc b (2 ^ s) (2 ^ 128) ∙ ap (λ (j : ℕ). b * j) (sym (pow-add 2 s 128))

-- ---- with the table of a generator

-- m zeros, where `read` has the remainders of m digits
read_turn : (g m k : ℕ) → m + k ≡ 192 → (read : ℕ → ℕ) → ((z : ℕ) → z < 2 ^ m → read z ≡ remainder 192 g (digits m z)) → (x : ℕ) → x < 2 ^ 192
    → bit_xor (x * 2 ^ m % 2 ^ 192) (read (x / 2 ^ k)) ≡ remainder_from 192 g x (replicate m 0)
read_turn g m k e read right x low =
    ap (bit_xor (x * 2 ^ m % 2 ^ 192)) (right (x / 2 ^ k) (shr_lt m k (rw e low))) ∙ sym (zeros_taken 192 g m k x e low)

module _ (g : ℕ) (table : List ℕ) (rule : Remainders g table) (degree : g / 2 ^ 192 ≡ 1) where
  eight_zeros : (x : ℕ) → x < 2 ^ 192 → turn_by_8 table x ≡ remainder_from 192 g x (replicate 8 0)
  unfolding turn_by_8
  eight_zeros = read_turn g 8 184 refl (eight_by table) (eight_entries g table rule)

  sixteen_zeros : (x : ℕ) → x < 2 ^ 192 → turn_by_16 table x ≡ remainder_from 192 g x (replicate 16 0)
  unfolding turn_by_16
  sixteen_zeros = read_turn g 16 176 refl (sixteen_by table) (sixteen_entries g table rule)

  turns_by_lem : (n x : ℕ) → x < 2 ^ 192 → turns_by table n x ≡ remainder_from 192 g x (replicate (8 * n) 0)
  unfolding turns_by remainder_from
  turns_by_lem zero x h = refl
  turns_by_lem (suc zero) x h = eight_zeros x h
  turns_by_lem (suc (suc n)) x h =
      let two : List ℕ = replicate 16 0 in
      let e : 16 + 8 * n ≡ 8 * suc (suc n) = omega arith in
      ap (turns_by table n) (sixteen_zeros x h) ∙ turns_by_lem n (remainder_from 192 g x two) (from_lt 192 g degree x h two (bits_zeros 16))
      ∙ sym (from_append 192 g x two (replicate (8 * n) 0))
      ∙ ap (remainder_from 192 g x) (replicate-append-replicate 16 (8 * n) 0 ∙ ap (λ (k : ℕ). replicate k 0) e)

  -- the first n bytes of v
  bytes_by_lem : (v n : ℕ) (w : List ℕ) → Bits w → n ≤ 8 → bytes_by table n (remainder 192 g w) v ≡ remainder 192 g (w ++ take (8 * n) (digits 64 v))
  unfolding bytes_by remainder
  bytes_by_lem v n w bits h =
      let m = 8 * n in
      let s = 64 - m in
      let k = s + 128 in
      let x = remainder_from 192 g 0 w in
      let b = v / 2 ^ s % 2 ^ m in
      let e : m + s ≡ 64 = omega arith in
      let f : m + k ≡ 192 = omega arith in
      let lb : b < 2 ^ m = mod-lt (v / 2 ^ s) (pow_pos m) in
      let ly : b * 2 ^ k < 2 ^ 192 = rw f at (shl_lt m k lb) in
      ap (λ (z : ℕ). turns_by table n (bit_xor x z)) (first_at_top m s v e)
      ∙ turns_by_lem n (bit_xor x (b * 2 ^ k)) (xor_lt 192 x (b * 2 ^ k) (from_lt 192 g degree 0 (pow_pos 192) w bits) ly)
      ∙ sym (at_top_first 192 g m k x b f lb) ∙ ap (remainder_from 192 g x) (first_digits m s v e) ∙ sym (from_append 192 g 0 w (take m (digits 64 v)))

  machine_word_by : (w : List ℕ) → Bits w → (v : ℕ) → bytes_by table 8 (remainder 192 g w) v ≡ remainder 192 g (w ++ digits 64 v)
  machine_word_by w bits v =
      bytes_by_lem v 8 w bits (le_refl 8) ∙ ap (λ (u : List ℕ). remainder 192 g (w ++ u)) (take_all 64 (digits 64 v) (omega (arith, length_digits 64 v)))

  machine_words_by_lem : (words : List ℕ) (n i : ℕ) (w : List ℕ) → Bits w
      → machine_words_by table n i (remainder 192 g w) words ≡ remainder 192 g (w ++ bits_from n i words)
  unfolding machine_words_by bits_from
  machine_words_by_lem words zero i w bits = ap (remainder 192 g) (sym (append-nil w))
  machine_words_by_lem words (suc n) i w bits =
      let v = get_or words i 0 in
      let d = digits 64 v in
      ap (λ (x : ℕ). machine_words_by table n (suc i) x words) (machine_word_by w bits v)
      ∙ machine_words_by_lem words n (suc i) (w ++ d) (bits_append w d bits (digits_bits 64 v))
      ∙ ap (remainder 192 g) (append_assoc w d (bits_from n (suc i) words))

  -- the first m bytes, fewer than 64
  pub taken_by_lem : (words : List ℕ) (m : ℕ) → m < 64 → taken_by table m words ≡ remainder 192 g (take (8 * m) (bits512 words))
  unfolding taken_by remainder remainder_from
  taken_by_lem words m h =
      let i = m / 8 in
      let n = m % 8 in
      let v = get_or words i 0 in
      let w = bits_from i 0 words in
      let least : min m 63 ≡ m = omega arith in
      let k : 8 * m ≡ length w + 8 * n = omega (arith, length_from i 0 words) in
      let s : take (8 * m) (bits512 words) ≡ w ++ take (8 * n) (digits 64 v)
      = ap₂ take k (around words i (omega arith)) ∙ take-append-add w (digits 64 v ++ bits_from (7 - i) (suc i) words) (8 * n)
      ∙ ap (λ (u : List ℕ). w ++ u) (take-append-le (8 * n) (digits 64 v) (bits_from (7 - i) (suc i) words) (omega (arith, length_digits 64 v))) in
      rw (least, s, machine_words_by_lem words i 0 [] tt) (bytes_by_lem v n w (bits_of_from i 0 words) (omega arith))
