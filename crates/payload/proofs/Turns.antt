-- Bits scrambled where they stand: digits added to eight elements, and turns of eight elements or of one, each of which leaves what all of them come to.
-- Assumes nothing.
use mathlib.Core.Path.{◌≡◌, refl, sym, ap, ap₂, ◌∙◌, subst}
use mathlib.Core.List.{List, [], ◌∷◌, ◌++◌, append-nil, append_assoc, zip_with}
use Prim.Native.Nat.{ℕ, suc, ◌+◌, ◌-◌, ◌/◌, ◌%◌, ◌^◌, ◌≤◌, ◌<◌}
use native.Mathlib.Nat.{sub-zero}
use native.Mathlib.Numerals.{add-one}
use native.Mathlib.Omega.{arith}
use borrow.Rule.Slice.PartMut.{put_mid, same_len_mid}
use lib.Bits.{bit_xor, xor_comm}
use lib.ListN.{length, get_or, set, take, drop, length-set, length-append, drop_of_length-le, take-append-drop}
use lib.Seq.{take_at, drop_at, drop-drop, take_all, take-suc-set, drop-set-lt, drop-cons, set_split, length-take-le}
use Rattle.bits.specs.Words.{digits}
use Rattle.bits.proofs.Copies.{part_long}
use Rattle.payload.specs.Scrambler.{formed, shifted, scrambled_from, register_after}
use Rattle.payload.proofs.Scrambling.{scrambled_append, length_scrambled, register_more}
use Rattle.payload.proofs.Forming.{formed_from, scrambled_each}

-- ---- digits added to elements

-- what elements come to, where from i on digits are yet to be added
abbrev pub adding : List ℕ → List ℕ → ℕ → List ℕ
adding ds l i = take i l ++ zip_with bit_xor (drop i l) (drop i ds)

pub added_more : (ds l : List ℕ) (i d : ℕ) → i < length l → i < length ds → d ≡ get_or ds i 0
    → adding ds (set l i (bit_xor (get_or l i 0) d)) (i + 1) ≡ adding ds l i
unfolding zip_with
added_more ds l i d h hd e =
    let b = bit_xor (get_or l i 0) d in
    let rest = zip_with bit_xor (drop (suc i) l) (drop (suc i) ds) in
    rw (add-one, take-suc-set l i b h, drop-set-lt (suc i) l i b (omega arith), drop-cons l i 0 h, drop-cons ds i 0 hd, ← e)
    (append_assoc (take i l) (b ∷ []) rest)

pub added_all : (ds l : List ℕ) (i : ℕ) → length l ≤ i → adding ds l i ≡ l
unfolding zip_with
added_all ds l i h = rw (take_all i l h, drop_of_length-le l h) (append-nil l)

-- the same, one digit after the other, from index i; on digits written out it computes to the stores themselves
abbrev added : List ℕ → ℕ → List ℕ → List ℕ
added l i [] = l
added l i (d ∷ ds) = added (set l i (bit_xor (get_or l i 0) d)) (suc i) ds

-- up to the end
added_to_end : (ds l : List ℕ) (i : ℕ) → i + length ds ≡ length l → added l i ds ≡ take i l ++ zip_with bit_xor (drop i l) ds
unfolding zip_with
added_to_end [] l i e =
    let h : length l ≤ i = omega arith in
    rw (take_all i l h, drop_of_length-le l h) (sym (append-nil l))
added_to_end (d ∷ ds) l i e =
    let b = bit_xor (get_or l i 0) d in
    let h : i < length l = omega arith in
    added_to_end ds (set l i b) (suc i) (omega (arith, length-set l i b))
    ∙ ap₂ (λ (u v : List ℕ). u ++ zip_with bit_xor v ds) (take-suc-set l i b h) (drop-set-lt (suc i) l i b (omega arith))
    ∙ append_assoc (take i l) (b ∷ []) (zip_with bit_xor (drop (suc i) l) ds)
    ∙ ap (λ (v : List ℕ). take i l ++ zip_with bit_xor v (d ∷ ds)) (sym (drop-cons l i 0 h))

-- the eight of a byte
abbrev pub eight_of : ℕ → List ℕ
eight_of k = k / 128 ∷ k / 64 % 2 ∷ k / 32 % 2 ∷ k / 16 % 2 ∷ k / 8 % 2 ∷ k / 4 % 2 ∷ k / 2 % 2 ∷ k % 2 ∷ []

eight_digits : (k : ℕ) → k < 256 → eight_of k ≡ digits 8 k
unfolding digits
eight_digits k h =
    let first : k / 2 ^ 7 % 2 ≡ k / 128 = omega arith in
    let last : k / 2 ^ 0 % 2 ≡ k % 2 = omega arith in
    rw (first, last)

pub eight_added : (k : ℕ) (l : List ℕ) → k < 256 → length l ≡ 8 → added l 0 (eight_of k) ≡ zip_with bit_xor l (digits 8 k)
eight_added k l h long = added_to_end (eight_of k) l 0 (sym long) ∙ ap (zip_with bit_xor l) (eight_digits k h)

-- the eight of a byte, where the last two are read apart
pub eight_added_by : (k : ℕ) (l : List ℕ) (x y : ℕ) → k < 256 → length l ≡ 8
    → let six = added l 0 (k / 128 ∷ k / 64 % 2 ∷ k / 32 % 2 ∷ k / 16 % 2 ∷ k / 8 % 2 ∷ k / 4 % 2 ∷ []) in
    let seven = set six 6 (bit_xor x (k / 2 % 2)) in
    x ≡ get_or six 6 0 → y ≡ get_or seven 7 0 → set seven 7 (bit_xor y (k % 2)) ≡ zip_with bit_xor l (digits 8 k)
eight_added_by k l x y h long ex ey = rw (ey, ex) (eight_added k l h long)

-- ---- turns

-- what bits come to, where those from i on are yet to be scrambled from the register s
abbrev pub ends : List ℕ → ℕ → ℕ → List ℕ
ends bits s i = take i bits ++ scrambled_from s (drop i bits)

-- k of them scrambled
ends_more : (bits ys : List ℕ) (i k s q : ℕ) → i + k ≤ length bits → ys ≡ scrambled_from s (take k (drop i bits)) → q ≡ register_after k s
    → ends (put_mid i k bits ys) q (i + k) ≡ ends bits s i
ends_more bits ys i k s q room ey eq =
    let first = take i bits in
    let rest = drop i bits in
    let behind = drop k rest in
    let many : length (take k rest) ≡ k = part_long i k bits room in
    let long : length (first ++ ys) ≡ i + k
    = length-append first ys ∙ ap₂ ◌+◌ (length-take-le i bits (omega arith)) (ap length ey ∙ length_scrambled s (take k rest) ∙ many) in
    ap (λ (v : List ℕ). ends v q (i + k)) (sym (append_assoc first ys behind))
    ∙ ap₂ (λ (u v : List ℕ). u ++ scrambled_from q v) (take_at (first ++ ys) behind (i + k) long) (drop_at (first ++ ys) behind (i + k) long)
    ∙ append_assoc first ys (scrambled_from q behind)
    ∙ ap (λ (v : List ℕ). first ++ v)
    (ap₂ (λ (u : List ℕ) (r : ℕ). u ++ scrambled_from r behind) ey (eq ∙ ap (λ (n : ℕ). register_after n s) (sym many))
    ∙ sym (scrambled_append s (take k rest) behind) ∙ ap (scrambled_from s) (take-append-drop k rest))

-- of the bits given, i are scrambled: with the register s the others come to what all of them come to, and so does the register
pub record Turned (given : List ℕ) (register : ℕ) (bits : List ℕ) (s i : ℕ) : Type 0 where
  pub within : i ≤ length given
  pub long : length bits ≡ length given
  pub same : ends bits s i ≡ scrambled_from register given
  pub after : register_after (length given - i) s ≡ register_after (length given) register

pub turned_none : (bits : List ℕ) (s : ℕ) → Turned bits s bits s 0
turned_none bits s = record { within = omega arith; long = refl; same = refl; after = ap (λ (n : ℕ). register_after n s) (sub-zero (length bits)) }

module _ {given : List ℕ} {register : ℕ} {bits : List ℕ} {s i : ℕ} (w : Turned given register bits s i) where
  turned_more : (ys : List ℕ) (q k : ℕ) → i + k ≤ length given → ys ≡ scrambled_from s (take k (drop i bits)) → q ≡ register_after k s
      → Turned given register (put_mid i k bits ys) q (i + k)
  turned_more ys q k room ey eq =
      let n = length given in
      let sum : k + (n - (i + k)) ≡ n - i = omega arith in
      let inside : i + k ≤ length bits = omega (arith, w.long) in
      record {
        within = room;
        long = same_len_mid i k bits ys (ap length ey ∙ length_scrambled s (take k (drop i bits))) ∙ w.long;
        same = ends_more bits ys i k s q inside ey eq ∙ w.same;
        after = ap (register_after (n - (i + k))) eq ∙ sym (register_more k (n - (i + k)) s) ∙ ap (λ (m : ℕ). register_after m s) sum ∙ w.after;
      }

  -- eight elements
  pub eight_turned : (ys : List ℕ) (key q k next : ℕ) → next ≡ i + 8 → next ≤ length given → k ≡ 8
      → ys ≡ zip_with bit_xor (take k (drop i bits)) (digits 8 key) → digits 8 key ≡ formed_from s 8 → q ≡ register_after 8 s
      → Turned given register (put_mid i k bits ys) q next
  eight_turned ys key q k next en room ek ey e eq =
      let inside : i + 8 ≤ length bits = omega (arith, w.long) in
      let by : ys ≡ scrambled_from s (take 8 (drop i bits))
      = ey ∙ ap (λ (m : ℕ). zip_with bit_xor (take m (drop i bits)) (digits 8 key)) ek
      ∙ scrambled_each 8 (take 8 (drop i bits)) key s (part_long i 8 bits inside) e in
      rw (en, ek) (turned_more ys q 8 (omega arith) by eq)

  -- one
  pub one_turned : (f q : ℕ) → i < length given → f ≡ formed s → q ≡ shifted s → Turned given register (set bits i (bit_xor (get_or bits i 0) f)) q (i + 1)
  unfolding scrambled_from register_after
  one_turned f q h ef eq =
      let b = bit_xor (get_or bits i 0) f in
      let inside : i < length bits = omega (arith, w.long) in
      let put : set bits i b ≡ put_mid i 1 bits (b ∷ [])
      = set_split bits i b inside ∙ ap (λ (v : List ℕ). take i bits ++ b ∷ v) (sym (drop-drop 1 i bits ∙ ap (λ (n : ℕ). drop n bits) (add-one i))) in
      let by : b ∷ [] ≡ scrambled_from s (take 1 (drop i bits)) = rw (drop-cons bits i 0 inside, ef, xor_comm) refl in
      rw put (turned_more (b ∷ []) q 1 (omega arith) by eq)

  pub turned_at : (j : ℕ) → i ≡ j → Turned given register bits s j
  turned_at j e = subst (λ (k : ℕ). Turned given register bits s k) e w

  -- all of them
  pub all_turned : length given ≤ i → (bits ≡ scrambled_from register given) × (s ≡ register_after (length given) register)
  unfolding scrambled_from register_after
  all_turned h =
      let none : length given - i ≡ 0 = omega arith in
      let room : length bits ≤ i = omega (arith, w.long) in
      let done : bits ≡ ends bits s i = rw (take_all i bits room, drop_of_length-le bits room) (sym (append-nil bits)) in (
        done ∙ w.same,
        sym (ap (λ (n : ℕ). register_after n s) none) ∙ w.after,
      )
