-- Scrambled bits of machine words written as bytes: the eight bytes of a machine word, and bytes written one after the other, eight at a time or one.
-- Assumes nothing.
use mathlib.Core.Path.{◌≡◌, refl, sym, ap, ap₂, ◌∙◌, subst}
use mathlib.Core.List.{List, [], ◌∷◌, ◌++◌, append-nil}
use Prim.Native.Nat.{ℕ, zero, suc, ◌+◌, ◌*◌, ◌/◌, ◌%◌, ◌^◌, ◌≤◌, ◌<◌}
use native.Mathlib.Nat.{le_refl}
use native.Mathlib.Numerals.{add-one}
use native.Mathlib.Omega.{arith}
use borrow.Rule.Slice.PartMut.{put_mid, same_len_mid}
use lib.ListN.{length, get_or, set, take, drop, length-set}
use lib.Seq.{take_at, drop-cons, take_all, take-add, take-suc-set, take-nil, drop-nil, take-append-add, drop-append-add, length-take-le}
use Rattle.std.specs.Int.{to_be_bytes, w64}
use Rattle.bits.specs.Words.{digits}
use Rattle.bits.specs.Bytes.{bits_of}
use Rattle.bits.proofs.Digits.{length_digits}
use Rattle.bits.proofs.Shifts.{digits-mod-pow, digits_append}
use Rattle.bits.proofs.Octets.{bits_of-append}
use Rattle.bits.proofs.Copies.{part_long, part_written}
use Rattle.packed.specs.Packed.{bits_from}
use Rattle.packed.proofs.Walks.{length_from, part_from}
use Rattle.payload.specs.Scrambler.{scrambled_from, register_after}
use Rattle.payload.proofs.Scrambling.{scrambled_append}
use Rattle.payload.proofs.Forming.{register_behind}

-- ---- the bits of some bytes among others

pub bits_of-take : (n : ℕ) (f : List ℕ) → take (8 * n) (bits_of f) ≡ bits_of (take n f)
unfolding bits_of
bits_of-take zero f = refl
bits_of-take (suc n) [] = take-nil (8 * suc n)
bits_of-take (suc n) (x ∷ f) =
    let e : 8 * suc n ≡ length (digits 8 x) + 8 * n = omega (arith, length_digits 8 x) in
    ap (λ (k : ℕ). take k (digits 8 x ++ bits_of f)) e ∙ take-append-add (digits 8 x) (bits_of f) (8 * n) ∙ ap (λ (v : List ℕ). digits 8 x ++ v) (bits_of-take n f)

pub bits_of-drop : (n : ℕ) (f : List ℕ) → drop (8 * n) (bits_of f) ≡ bits_of (drop n f)
unfolding bits_of
bits_of-drop zero f = refl
bits_of-drop (suc n) [] = drop-nil (8 * suc n)
bits_of-drop (suc n) (x ∷ f) =
    let e : 8 * suc n ≡ length (digits 8 x) + 8 * n = omega (arith, length_digits 8 x) in
    ap (λ (k : ℕ). drop k (digits 8 x ++ bits_of f)) e ∙ drop-append-add (digits 8 x) (bits_of f) (8 * n) ∙ bits_of-drop n f

-- ---- the bytes of a machine word

-- the one at a place among others
bits_of_at : (bs : List ℕ) (i : ℕ) → i < length bs → take 8 (drop (8 * i) (bits_of bs)) ≡ digits 8 (get_or bs i 0)
unfolding bits_of
bits_of_at bs i h =
    let x = get_or bs i 0 in
    ap (take 8) (bits_of-drop i bs ∙ ap bits_of (drop-cons bs i 0 h)) ∙ take_at (digits 8 x) (bits_of (drop (suc i) bs)) 8 (length_digits 8 x)

-- a byte before n digits
byte_before : (n x : ℕ) (rest : List ℕ) → rest ≡ digits n x → digits 8 (x / 2 ^ n % 256) ++ rest ≡ digits (8 + n) x
byte_before n x rest e = ap₂ ◌++◌ (digits-mod-pow 8 8 (x / 2 ^ n) (le_refl 8)) e ∙ sym (digits_append 8 n x)

-- all eight
pub bits_of_word : (x : ℕ) → bits_of (to_be_bytes w64 x) ≡ digits 64 x
unfolding bits_of
bits_of_word x =
    let last : digits 8 (x % 256) ++ [] ≡ digits 8 x = append-nil (digits 8 (x % 256)) ∙ digits-mod-pow 8 8 x (le_refl 8) in
    byte_before 56 x _ (byte_before 48 x _ (byte_before 40 x _ (byte_before 32 x _ (byte_before 24 x _ (byte_before 16 x _ (byte_before 8 x _ last))))))

-- one of them
pub byte_of_word : (x i : ℕ) → i < 8 → digits 8 (get_or (to_be_bytes w64 x) i 0) ≡ take 8 (drop (8 * i) (digits 64 x))
byte_of_word x i h = sym (ap (λ (l : List ℕ). take 8 (drop (8 * i) l)) (sym (bits_of_word x)) ∙ bits_of_at (to_be_bytes w64 x) i h)

-- ---- bytes written

-- of n bytes, j are written, and s is the register after them
pub record Written (register : ℕ) (words : List ℕ) (n : ℕ) (out : List ℕ) (s j : ℕ) : Type 0 where
  pub long : length out ≡ n
  pub within : j ≤ n
  pub bits : bits_of (take j out) ≡ scrambled_from register (take (8 * j) (bits_from n 0 words))
  pub after : s ≡ register_after (8 * j) register

module _ {register : ℕ} {words : List ℕ} {n : ℕ} where
  pub written_none : {out : List ℕ} → length out ≡ n → Written register words n out register 0
  unfolding bits_of scrambled_from register_after
  written_none long = record { long = long; within = omega arith; bits = refl; after = refl }

  module _ {out : List ℕ} {s j : ℕ} (w : Written register words n out s j) where
    -- k more
    written_more : (next ys : List ℕ) (q k : ℕ) → length next ≡ n → j + k ≤ n → take (j + k) next ≡ take j out ++ ys
        → bits_of ys ≡ scrambled_from s (take (8 * k) (drop (8 * j) (bits_from n 0 words))) → q ≡ register_after (8 * k) s → Written register words n next q (j + k)
    written_more next ys q k long room e ey eq =
        let all = bits_from n 0 words in
        let m = 8 * j in
        let first = take m all in
        let more = take (8 * k) (drop m all) in
        let many : length first ≡ m = length-take-le m all (omega (arith, length_from n 0 words)) in
        let sum : m + 8 * k ≡ 8 * (j + k) = omega arith in
        record {
          long = long;
          within = room;
          bits = ap bits_of e ∙ bits_of-append (take j out) ys
              ∙ ap₂ ◌++◌ w.bits (ey ∙ ap (λ (r : ℕ). scrambled_from r more) (w.after ∙ ap (λ (i : ℕ). register_after i register) (sym many)))
              ∙ sym (ap (λ (i : ℕ). scrambled_from register (take i all)) (sym sum) ∙ ap (scrambled_from register) (take-add m (8 * k) all)
              ∙ scrambled_append register first more);
          after = register_behind m (8 * k) register s q w.after eq ∙ ap (λ (i : ℕ). register_after i register) sum;
        }

    -- the eight of a machine word
    pub eight_more : (ys : List ℕ) (i x y q k : ℕ) → j ≡ 8 * i → 8 * (i + 1) ≤ n → k ≡ 8 → ys ≡ to_be_bytes w64 y
        → x ≡ get_or words i 0 → digits 64 y ≡ scrambled_from s (digits 64 x) → q ≡ register_after 64 s
        → Written register words n (put_mid j k out ys) q (8 * (i + 1))
    eight_more ys i x y q k ej room ek eys ex es eq =
        let all = bits_from n 0 words in
        let long : length ys ≡ 8 = ap length eys in
        let at : 64 * i + 0 ≡ 8 * j = omega arith in
        let next : 8 * (i + 1) ≡ j + 8 = omega arith in
        let word : digits 64 x ≡ take 64 (drop (8 * j) all)
        = ap (digits 64) ex ∙ sym (ap (λ (m : ℕ). take 64 (drop m all)) (sym at) ∙ part_from words n i 0 64 (omega arith) (le_refl 64)
        ∙ take_all 64 (digits 64 (get_or words i 0)) (omega (arith, length_digits 64 (get_or words i 0)))) in
        rw (next, ek) (written_more (put_mid j 8 out ys) ys q 8 (same_len_mid j 8 out ys (long ∙ sym (part_long j 8 out (omega (arith, w.long)))) ∙ w.long) (omega arith)
        (part_written j 8 out (omega (arith, w.long)) ys long)
        (ap bits_of eys ∙ bits_of_word y ∙ es ∙ ap (scrambled_from s) word) eq)

    -- one byte of a machine word
    pub byte_more : (last : List ℕ) (b x i q : ℕ) → j < n → i ≡ j / 8 → x ≡ get_or words i 0 → last ≡ to_be_bytes w64 x
        → digits 8 b ≡ scrambled_from s (digits 8 (get_or last (j % 8) 0)) → q ≡ register_after 8 s → Written register words n (set out j b) q (j + 1)
    unfolding bits_of
    byte_more last b x i q room ei ex el eb eq =
        let all = bits_from n 0 words in
        let at : 64 * (j / 8) + 8 * (j % 8) ≡ 8 * j = omega arith in
        let inside : j < length out = omega arith in
        let byte : digits 8 (get_or last (j % 8) 0) ≡ take 8 (drop (8 * j) all)
        = ap (λ (l : List ℕ). digits 8 (get_or l (j % 8) 0)) el ∙ byte_of_word x (j % 8) (omega arith)
        ∙ ap (λ (m : ℕ). take 8 (drop (8 * (j % 8)) (digits 64 m))) (ex ∙ ap (λ (m : ℕ). get_or words m 0) ei)
        ∙ sym (ap (λ (i : ℕ). take 8 (drop i all)) (sym at) ∙ part_from words n (j / 8) (8 * (j % 8)) 8 (omega arith) (omega arith)) in
        written_more (set out j b) (b ∷ []) q 1 (length-set out j b ∙ w.long) (omega arith) (rw add-one (take-suc-set out j b inside))
        (append-nil (digits 8 b) ∙ eb ∙ ap (scrambled_from s) byte) eq

    pub written_at : (i : ℕ) → j ≡ i → Written register words n out s i
    written_at i e = subst (λ (k : ℕ). Written register words n out s k) e w

    -- all of them
    pub written_all : n ≤ j → (length out ≡ n) × (bits_of out ≡ scrambled_from register (take (8 * n) (bits_from n 0 words))) × (s ≡ register_after (8 * n) register)
    written_all h =
        let e : j ≡ n = omega arith in (
          w.long,
          ap bits_of (sym (take_all j out (omega arith))) ∙ w.bits ∙ ap (λ (i : ℕ). scrambled_from register (take (8 * i) (bits_from n 0 words))) e,
          w.after ∙ ap (λ (i : ℕ). register_after (8 * i) register) e,
        )
